use Rattle.std.proofs.Common.{◌≡◌, drop}
use Rattle.schedule.specs.Cuts.{words_in}
use Rattle.schedule.specs.Misfits.{first_misfit}
use Rattle.schedule.proofs.misfit.first_misfit.Given as goal

abbrev pub invariant-loop-place : goal.invariant-loop-place
invariant-loop-place l =
    first_misfit l.places (words_in l.initial.words.rest.now) ≡ first_misfit (drop l.place-index l.places) (words_in l.words.rest.now)
