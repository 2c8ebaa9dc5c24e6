-- The number of each complaint's cause, and the causes that others gave.
use Rattle.std.specs.Prelude.{ℕ}
use Rattle.slots.specs.declared.refusal.Refusal.{Refusal}
use Rattle.slots.specs.declared.refusal.Refusal.TheVariants.{NoSlot as SlotsTaken, Earlier}
use Rattle.schedule.specs.declared.complaint.Cause.{Cause}
use Rattle.schedule.specs.declared.complaint.Cause.TheVariants.{MissingWord, UnknownWord, NotANumber, NumberTooLarge, WordTooMany, EarlierTick, NoSlot, NoStart, NoRoom}

-- the question that is answered no: 12, is there room; 14, is the tick no smaller than the one
-- before; 15, is the record whole; 16, are its words and numbers known values
abbrev pub complaint_number : Cause → ℕ
complaint_number MissingWord = 15
complaint_number WordTooMany = 15
complaint_number NoStart = 15
complaint_number UnknownWord = 16
complaint_number NotANumber = 16
complaint_number NumberTooLarge = 16
complaint_number NoSlot = 12
complaint_number NoRoom = 12
complaint_number EarlierTick = 14

-- why the list refuses an order
abbrev pub refusal_cause : Refusal → Cause
refusal_cause SlotsTaken = NoSlot
refusal_cause Earlier = EarlierTick
