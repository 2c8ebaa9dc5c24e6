-- Striking is final.
use Rattle.std.specs.Prelude.{◌≡◌, ℕ, ◌≤◌, List, ◌++◌, None}
use Rattle.protocol.specs.declared.party.Roll.TheVariants.{Struck}
use Rattle.protocol.specs.declared.call.Call.{Call}
use Rattle.protocol.specs.Rules.{Rules}
use Rattle.protocol.specs.State.{State, the}
use Rattle.protocol.specs.Runs.{run_state}

abbrev pub IsStruck : ℕ → State → Type 0
IsStruck i s = (the i s.table).note.roll ≡ Struck

-- a party struck after some of the calls is struck after each later one, and no beat is sent to it
pub record StruckForGood (rules : Rules) (calls : List Call) : Type 0 where
  pub stays_struck :
      (before later after : List Call) (i : ℕ) → calls ≡ before ++ (later ++ after) →
      1 ≤ i → i ≤ rules.plan.n → IsStruck i (run_state rules before) →
      IsStruck i (run_state rules (before ++ later))
  pub gets_no_beat :
      (before after : List Call) (i : ℕ) → calls ≡ before ++ after →
      1 ≤ i → i ≤ rules.plan.n → IsStruck i (run_state rules before) →
      (the i (run_state rules before).table).legs.out ≡ None
