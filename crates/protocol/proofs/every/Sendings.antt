-- Every call accounts for each sending, so no beat vanishes in any run.
use Rattle.std.proofs.Common.{List, Some, arith, get_or, length, refl, subst, ℕ, ◌+◌, ◌≡◌, ◌≤◌}
use Rattle.pace.specs.Meaning.{Lawful}
use Rattle.protocol.specs.declared.call.Call.{Call}
use Rattle.protocol.specs.declared.call.Call.TheVariants.{Crash, Deliver, Join, Leave, Lose, Tick}
use Rattle.protocol.specs.Rules.{Rules}
use Rattle.protocol.specs.Party.{nobody, on_leg}
use Rattle.protocol.specs.State.{State, opening, the}
use Rattle.protocol.specs.Runs.{effect, number, run_state}
use Rattle.protocol.specs.Beats.{FreeFor}
use Rattle.protocol.specs.Sendings.{NoBeatVanishes, UnderWay}
use Rattle.protocol.proofs.Asked.{asked_low, asked_party}
use Rattle.protocol.proofs.Runs.{every_run}
use Rattle.protocol.proofs.Sendings.{AllAccounted, HasOne, weaken_accounted}
use Rattle.protocol.proofs.calls.Deliver.{delivery_accounts}
use Rattle.protocol.proofs.calls.Lose.{loss_accounts}
use Rattle.protocol.proofs.calls.Crash.{crash_accounts}
use Rattle.protocol.proofs.calls.Join.{join_accounts}
use Rattle.protocol.proofs.calls.Leave.{leave_accounts}
use Rattle.protocol.proofs.calls.Tick.{tick_accounts}
use Rattle.protocol.proofs.every.Logs.{run_logged}
use Rattle.protocol.proofs.every.Whole.{free_legs}

module _ (rules : Rules) where
  call_accounts : (call : Call) (s : State) → number rules call s ≡ 0 → FreeFor rules call s → rules.plan.n ≤ length s.table.parties → AllAccounted rules s → AllAccounted rules (effect rules call s)
  call_accounts Tick s z free long a = tick_accounts rules s free long a
  call_accounts (Deliver i leg) s z free long a = let p = asked_party rules.plan.n i _ z in delivery_accounts rules (on_leg leg (the i s.table)) i leg s refl p.0 p.1 free long a
  call_accounts (Lose i leg) s z free long a = let p = asked_party rules.plan.n i _ z in loss_accounts rules (on_leg leg (the i s.table)) i leg s refl p.0 p.1 long a
  call_accounts (Crash i) s z free long a = crash_accounts rules i s (asked_low rules.plan.n i _ z) long a
  call_accounts (Join i) s z free long a = let p = asked_party rules.plan.n i _ z in join_accounts rules i s p.0 p.1 free long a
  call_accounts (Leave i) s z free long a = let p = asked_party rules.plan.n i _ z in leave_accounts rules i s p.0 p.1 long a

  -- of every run
  run_accounted : Lawful rules.meaning → (calls : List Call) → AllAccounted rules (run_state rules calls)
  run_accounted sound =
      every_run rules (opening rules) (λ _ s. AllAccounted rules s)
      (λ before call z a. call_accounts call (run_state rules before) z (free_legs rules sound before call z) (run_logged rules before).told.long a)
      (λ before call k z a. a)
      (λ k below. absurd (omega arith))

under_way : (n : ℕ) (s : State) (k : ℕ) → HasOne n s.table.parties k → UnderWay n s.table k
under_way n s k h = record {
  party = h.at + 1;
  leg = h.has.leg;
  beat = h.has.beat;
  of_a_party = (omega arith, omega (arith, h.below));
  stands = subst (λ j. on_leg h.has.leg (get_or s.table.parties j nobody) ≡ Some h.has.beat) (omega arith) h.has.stands;
  sent_there = h.has.sent_there;
}

pub no_beat_vanishes : (rules : Rules) → Lawful rules.meaning → (calls : List Call) → NoBeatVanishes rules (run_state rules calls)
no_beat_vanishes rules sound calls =
    let s = run_state rules calls in
    weaken_accounted s.log (HasOne rules.plan.n s.table.parties) (UnderWay rules.plan.n s.table) (under_way rules.plan.n s)
    (run_accounted rules sound calls)
