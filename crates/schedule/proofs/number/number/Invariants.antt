use Rattle.std.proofs.Common.{◌≡◌, ◌+◌, ◌≤◌, drop}
use Rattle.schedule.specs.Words.{number_word}
use Rattle.schedule.proofs.Numbers.{counted}
use Rattle.schedule.proofs.number.number.Given as goal

abbrev pub invariant-loop-byte : goal.invariant-loop-byte
invariant-loop-byte l = (l.value ≤ l.max + 1) × (number_word l.max l.word ≡ counted l.max l.value (drop l.byte-index l.word))
