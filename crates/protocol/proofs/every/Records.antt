-- What every call writes, and so every run.
use Rattle.std.proofs.Common.{List, arith, refl, ◌≡◌}
use Rattle.protocol.specs.declared.call.Call.{Call}
use Rattle.protocol.specs.declared.call.Call.TheVariants.{Crash, Deliver, Join, Leave, Lose, Tick}
use Rattle.protocol.specs.Rules.{Rules, trip}
use Rattle.protocol.specs.Party.{on_leg}
use Rattle.protocol.specs.State.{State, opening, the}
use Rattle.protocol.specs.Runs.{effect, number, state_after}
use Rattle.protocol.specs.Order.{OwnedUpTo}
use Rattle.protocol.specs.Sendings.{UnderWay}
use Rattle.protocol.proofs.Runs.{every_state}
use Rattle.protocol.proofs.Asked.{asked_low, asked_party}
use Rattle.protocol.proofs.Records.{Grown, OwnedBy, Wrote, grown_further, grown_stays, weaken_grown}
use Rattle.protocol.proofs.calls.Deliver.{delivery_writes}
use Rattle.protocol.proofs.calls.Lose.{loss_writes}
use Rattle.protocol.proofs.calls.Crash.{crash_writes}
use Rattle.protocol.proofs.calls.Join.{join_writes}
use Rattle.protocol.proofs.calls.Leave.{leave_writes}
use Rattle.protocol.proofs.calls.Tick.{tick_writes}

module _ (rules : Rules) where
  -- what a granted call writes
  pub call_writes : (call : Call) (s : State) → number rules call s ≡ 0 → Grown (Wrote rules.plan.n s.table.clock (UnderWay rules.plan.n s.table)) s.log (effect rules call s).log
  call_writes Tick s e = tick_writes rules _ s
  call_writes (Deliver i leg) s e =
      let a = asked_party rules.plan.n i _ e in
      delivery_writes rules _ (on_leg leg (the i s.table)) i leg s a.1 (λ b on. record { party = i; leg = leg; beat = b; of_a_party = a; stands = on; sent_there = refl })
  call_writes (Lose i leg) s e =
      let a = asked_party rules.plan.n i _ e in
      loss_writes rules _ (on_leg leg (the i s.table)) i leg s a.1 (λ b on. record { party = i; leg = leg; beat = b; of_a_party = a; stands = on; sent_there = refl })
  call_writes (Crash i) s e = crash_writes rules _ i s (asked_low rules.plan.n i _ e)
  call_writes (Join i) s e = join_writes rules _ (trip rules.meaning) i s (asked_party rules.plan.n i _ e).1
  call_writes (Leave i) s e = leave_writes rules _ i s (asked_party rules.plan.n i _ e).1

  -- the log of a run only grows, by records of the root or a party of the plan
  pub grows : (s₀ : State) (calls : List Call) → Grown (OwnedBy rules.plan.n) s₀.log (state_after rules calls s₀).log
  grows s₀ =
      every_state rules s₀ (λ s. Grown (OwnedBy rules.plan.n) s₀.log s.log)
      (λ call s z g. grown_further _ _ _ _ g
      (weaken_grown (Wrote rules.plan.n s.table.clock (UnderWay rules.plan.n s.table)) (OwnedBy rules.plan.n) s.log (effect rules call s).log (λ h w. w.0) (call_writes call s z)))
      (grown_stays _ s₀.log)

  pub owned : (calls : List Call) → OwnedUpTo rules.plan.n (state_after rules calls (opening rules)).log
  owned calls k h = (grows (opening rules) calls).fresh k (omega arith) h
