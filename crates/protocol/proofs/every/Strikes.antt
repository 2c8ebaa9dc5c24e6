-- Every call leaves the struck parties struck, so a party is struck for good.
use Rattle.std.proofs.Common.{List, subst, sym, ℕ, ◌++◌}
use Rattle.pace.specs.Meaning.{Lawful}
use Rattle.protocol.specs.declared.call.Call.{Call}
use Rattle.protocol.specs.declared.call.Call.TheVariants.{Crash, Deliver, Join, Leave, Lose, Tick}
use Rattle.protocol.specs.Party.{on_leg}
use Rattle.protocol.specs.Rules.{Rules}
use Rattle.protocol.specs.State.{State, opening, the}
use Rattle.protocol.specs.Runs.{effect, run_state}
use Rattle.protocol.specs.Strikes.{IsStruck, StruckForGood}
use Rattle.protocol.proofs.Runs.{every_state, run_append}
use Rattle.protocol.proofs.calls.Deliver.{delivery_keeps_struck}
use Rattle.protocol.proofs.calls.Lose.{loss_keeps_struck}
use Rattle.protocol.proofs.calls.Crash.{crash_keeps_struck}
use Rattle.protocol.proofs.calls.Join.{join_keeps_struck}
use Rattle.protocol.proofs.calls.Leave.{leave_keeps_struck}
use Rattle.protocol.proofs.calls.Tick.{tick_keeps_struck}
use Rattle.protocol.proofs.every.Whole.{no_beat_of_the_root}

module _ (i : ℕ) where
  module _ (rules : Rules) where
    call_keeps_struck : (call : Call) (s : State) → IsStruck i s → IsStruck i (effect rules call s)
    call_keeps_struck Tick s e = tick_keeps_struck i rules s e
    call_keeps_struck (Deliver j leg) s e = delivery_keeps_struck i (on_leg leg (the j s.table)) j leg s e
    call_keeps_struck (Lose j leg) s e = loss_keeps_struck i (on_leg leg (the j s.table)) j leg s e
    call_keeps_struck (Crash j) s e = crash_keeps_struck i j s e
    call_keeps_struck (Join j) s e = join_keeps_struck i _ j s e
    call_keeps_struck (Leave j) s e = leave_keeps_struck i j s e

    -- after some calls, and then others
    run_struck : (before later : List Call) → IsStruck i (run_state rules before) → IsStruck i (run_state rules (before ++ later))
    run_struck before later e =
        subst (IsStruck i) (sym (run_append rules before later (opening rules)))
        (every_state rules (run_state rules before) (IsStruck i) (λ call s z e. call_keeps_struck call s e) e later)

pub strikes_for_good : (rules : Rules) → Lawful rules.meaning → (calls : List Call) → StruckForGood rules calls
strikes_for_good rules sound calls = record {
  stays_struck = λ before later after i among lo hi e. run_struck i rules before later e;
  gets_no_beat = λ before after i among lo hi e. no_beat_of_the_root rules sound before i lo hi e;
}
