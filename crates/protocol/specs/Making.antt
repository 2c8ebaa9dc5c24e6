-- Calls made one after another, up to the first refusal.
use Rattle.std.specs.Prelude.{◌≡◌, ℕ, zero, suc, List, [], ◌∷◌}
use Rattle.protocol.specs.declared.call.Call.{Call}
use Rattle.protocol.specs.Rules.{Rules}
use Rattle.protocol.specs.State.{State}
use Rattle.protocol.specs.Runs.{number, perform}

-- what came of making calls: the group and its log, the calls that were made,
-- and the number of the refusal of the last one, 0 for none
pub record Making : Type 0 where
  pub state : State
  pub calls : List Call
  pub number : ℕ

-- a call that was not refused is followed by the others, a refused one is the last
abbrev pub goes_on : ℕ → Call → State → Making → Making
goes_on zero call s rest =
    record { state = rest.state; calls = call ∷ rest.calls; number = rest.number }
goes_on (suc k) call s rest = record { state = s; calls = call ∷ []; number = suc k }

-- calls made one after another, up to the first that is refused
abbrev pub making : Rules → List Call → State → Making
making rules [] s = record { state = s; calls = []; number = 0 }
making rules (call ∷ calls) s =
    goes_on (number rules call s) call s (making rules calls (perform rules call s))

-- two makings came to the same group and log, and to the same refusal
pub record Same (a b : Making) : Type 0 where
  pub state : a.state ≡ b.state
  pub number : a.number ≡ b.number
