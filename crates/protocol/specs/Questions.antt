-- What is asked before a call.
use Rattle.std.specs.Prelude.{ℕ, ◌+◌, Bool, true, false, ◌&&◌, ◌==◌, nat_le, nat_lt, List, length}
use Rattle.protocol.specs.declared.happening.Happening.{Happening}
use Rattle.slots.specs.Slots.{last_time}
use Rattle.protocol.specs.State.{State}

-- a question: its answer, its number, and what the later questions come to; 0 where each has a yes
abbrev pub asks : Bool → ℕ → ℕ → ℕ
asks true k rest = rest
asks false k rest = k

-- 1 to n
abbrev pub is_party : ℕ → ℕ → Bool
is_party n i = nat_lt 0 i && nat_le i n

-- the time of a record, by which a list finds it
abbrev pub tick_of : Happening → ℕ
tick_of h = h.tick

-- the last record, and so each of a log whose ticks never fall, is not later than the clock
abbrev pub none_later : ℕ → List Happening → Bool
none_later clock log = nat_le (last_time tick_of log) clock

-- the records of the log are as many as the group wrote, and the clock has come to each
abbrev pub is_own_log : State → Bool
is_own_log s = length s.log == s.table.logged && none_later s.table.clock s.log

-- the questions on the log, for a call that wants so many slots of room
abbrev pub log_asks : ℕ → ℕ → State → ℕ
log_asks slots room s =
    asks (nat_le (length s.log + slots) room) 12 (asks (is_own_log s) 13 0)
