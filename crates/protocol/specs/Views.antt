-- A group's table with its log, as the rules see them.
use Rattle.std.specs.Prelude.{ℕ, ◌+◌, ◌≤◌}
use Rattle.slots.specs.declared.SlotList.{SlotList}
use Rattle.slots.specs.Slots.{items, capacity, last_time}
use Rattle.protocol.specs.declared.happening.Happening.{Happening}
use Rattle.protocol.specs.declared.table.Table.{Table}
use Rattle.protocol.specs.State.{State}
use Rattle.protocol.specs.Questions.{tick_of}

-- the table beside the records of the log
abbrev pub state_of : Table → SlotList Happening → State
state_of t l = record { table = t; log = items l }

-- the log has so many free slots, and its last record is not later than the clock
pub record Ready (l : SlotList Happening) (clock wanted : ℕ) : Type 0 where
  pub room : l.len + wanted ≤ capacity l
  pub current : last_time tick_of (items l) ≤ clock
