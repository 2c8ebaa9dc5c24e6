-- The log of a run is in order and is the group's own.
use Rattle.std.specs.Prelude.{◌≡◌, ℕ, Bool, true, ◌<◌, ◌≤◌, ◌↔◌, List, length, ◌≢◌}
use Rattle.std.specs.List.Sorted.{IsNonDecreasingBy}
use Rattle.protocol.specs.declared.happening.Happening.{Happening}
use Rattle.protocol.specs.declared.call.Call.{Call}
use Rattle.protocol.specs.Rules.{Rules}
use Rattle.protocol.specs.State.{State}
use Rattle.protocol.specs.Questions.{tick_of}
use Rattle.protocol.specs.Runs.{number}
use Rattle.protocol.specs.Beats.{happening_at}

-- the ticks of the log never fall, and no record is later than the clock
pub record InOrder (clock : ℕ) (log : List Happening) : Type 0 where
  pub rises : IsNonDecreasingBy tick_of log
  pub none_later : (k : ℕ) → k < length log → (happening_at log k).tick ≤ clock

-- the owner of each record is at most n
abbrev pub OwnedUpTo : ℕ → List Happening → Type 0
OwnedUpTo n log = (k : ℕ) → k < length log → (happening_at log k).owner ≤ n

-- the log has just the length that the group counted, and no record after the clock
pub record OwnLog (s : State) : Type 0 where
  pub counted : length s.log ≡ s.table.logged
  pub none_later : (k : ℕ) → k < length s.log → (happening_at s.log k).tick ≤ s.table.clock

-- the answer to whether the log is the group's own, of every log whose ticks never fall
abbrev pub TellsOwnLog : Bool → State → Type 0
TellsOwnLog answer s = IsNonDecreasingBy tick_of s.log → (answer ≡ true) ↔ OwnLog s

-- the log is in order, each record is of the root or a party of the plan,
-- the group has counted them, and so no call is refused because the log is another's
pub record LogInOrder (rules : Rules) (s : State) : Type 0 where
  pub in_order : InOrder s.table.clock s.log
  pub owned : OwnedUpTo rules.plan.n s.log
  pub counted : s.table.logged ≡ length s.log
  pub never_another : (room : ℕ) (call : Call) → number (record rules { room = room }) call s ≢ 13
