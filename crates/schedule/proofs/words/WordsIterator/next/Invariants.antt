use Rattle.std.proofs.Common.{◌≡◌, length}
use Rattle.schedule.specs.Cuts.{words_in}
use Rattle.schedule.proofs.words.WordsIterator.next.Given as goal

abbrev pub invariant-loop-word : goal.invariant-loop-word
invariant-loop-word l = words_in l.self.rest.now ≡ words_in l.initial.self.rest.now

abbrev pub decreases-loop-word : goal.decreases-loop-word
decreases-loop-word l = length l.self.rest.now
