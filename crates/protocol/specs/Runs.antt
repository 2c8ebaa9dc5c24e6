-- Calls and runs: calls made one after the other.
use Rattle.std.specs.Prelude.{ℕ, Bool, true, false, ◌&&◌, ◌==◌, zero, suc, List, [], ◌∷◌, not}
use Rattle.protocol.specs.declared.call.Call.{Call}
use Rattle.protocol.specs.declared.call.Call.TheVariants.{Tick, Deliver, Lose, Crash, Join, Leave}
use Rattle.protocol.specs.Rules.{Rules, trip}
use Rattle.protocol.specs.State.{State, opening}
use Rattle.protocol.specs.calls.Deliver.{beat_number, after_delivery}
use Rattle.protocol.specs.calls.Lose.{after_loss}
use Rattle.protocol.specs.calls.Crash.{crash_number, after_crash}
use Rattle.protocol.specs.calls.Join.{join_number, after_join}
use Rattle.protocol.specs.calls.Leave.{leave_number, after_leave}
use Rattle.protocol.specs.calls.Tick.{tick_number, after_tick}

-- the number of the refusal of a call, 0 for none
abbrev pub number : Rules → Call → State → ℕ
number rules Tick s = tick_number rules.plan rules.room s
number rules (Deliver i leg) s = beat_number rules.plan rules.room i leg s
number rules (Lose i leg) s = beat_number rules.plan rules.room i leg s
number rules (Crash i) s = crash_number rules.plan rules.room i s
number rules (Join i) s = join_number rules.plan rules.room i s
number rules (Leave i) s = leave_number rules.plan rules.room i s

-- the group and its log after a call that is not refused
abbrev pub effect : Rules → Call → State → State
effect rules Tick s = after_tick rules s
effect rules (Deliver i leg) s = after_delivery i leg s
effect rules (Lose i leg) s = after_loss i leg s
effect rules (Crash i) s = after_crash i s
effect rules (Join i) s = after_join (trip rules.meaning) i s
effect rules (Leave i) s = after_leave i s

-- a refused call changes nothing
abbrev pub unless : ℕ → State → State → State
unless zero s t = t
unless (suc k) s t = s

-- the group and its log after a call
abbrev pub perform : Rules → Call → State → State
perform rules call s = unless (number rules call s) s (effect rules call s)

-- a run: the group and its log after the calls, in their order
abbrev pub state_after : Rules → List Call → State → State
state_after rules [] s = s
state_after rules (call ∷ calls) s = state_after rules calls (perform rules call s)

-- the group and its log that the calls lead to, from the opening on
abbrev pub run_state : Rules → List Call → State
run_state rules calls = state_after rules calls (opening rules)

-- the answers of a run
abbrev pub numbers : Rules → List Call → State → List ℕ
numbers rules [] s = []
numbers rules (call ∷ calls) s = number rules call s ∷ numbers rules calls (perform rules call s)

-- a loss or a crash
abbrev pub harms : Call → Bool
harms Tick = false
harms (Deliver i leg) = false
harms (Lose i leg) = true
harms (Crash i) = true
harms (Join i) = false
harms (Leave i) = false

-- the call, so answered, was no loss and no crash
abbrev pub spares : Call → ℕ → Bool
spares call k = not (harms call && k == 0)

-- each loss and crash among the calls was refused, by their answers
abbrev pub unharmed : List Call → List ℕ → Bool
unharmed [] ks = true
unharmed (call ∷ calls) [] = true
unharmed (call ∷ calls) (k ∷ ks) = spares call k && unharmed calls ks
