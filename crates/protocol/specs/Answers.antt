-- The number of each refusal of a group.
use Rattle.std.specs.Prelude.{ℕ, Ok, Err, Result}
use Rattle.protocol.specs.declared.refusal.Refusal.{Refusal}
use Rattle.protocol.specs.declared.refusal.Refusal.TheVariants.{NoSuchParty, KindForbids, WrongState, NoBeat, ClockAtEnd, BeatDue, NoSlot, LogDiffers}

-- each refusal is the number of the question that was answered no
abbrev pub refusal_number : Refusal → ℕ
refusal_number NoSuchParty = 6
refusal_number KindForbids = 7
refusal_number WrongState = 8
refusal_number NoBeat = 9
refusal_number ClockAtEnd = 10
refusal_number BeatDue = 11
refusal_number NoSlot = 12
refusal_number LogDiffers = 13

-- the number that an answer tells, 0 for a call that was not refused
abbrev pub number_told : {A : Type 0} → Result A Refusal → ℕ
number_told (Ok x) = 0
number_told (Err e) = refusal_number e
