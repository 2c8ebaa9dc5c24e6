-- The clock of a run tells how many ticks were granted.
use Rattle.std.proofs.Common.{◌≡◌, ℕ, zero, suc, ◌+◌, true, false, List, [], ◌∷◌, Some, None, Option, Ok, Err, Result, is_ok, sym, refl, ap, ◌∙◌, arith}
use Rattle.protocol.specs.declared.party.Beat.{Beat}
use Rattle.protocol.specs.declared.refusal.Refusal.{Refusal}
use Rattle.protocol.specs.declared.call.Call.{Call}
use Rattle.protocol.specs.declared.call.Call.TheVariants.{Tick, Deliver, Lose, Crash, Join, Leave}
use Rattle.protocol.specs.declared.call.Step.{Step}
use Rattle.protocol.specs.Answers.{number_told}
use Rattle.protocol.specs.Party.{on_leg}
use Rattle.protocol.specs.Rules.{Rules}
use Rattle.protocol.specs.State.{State, the, opening}
use Rattle.protocol.specs.calls.Deliver.{after_arrival}
use Rattle.protocol.specs.calls.Lose.{after_loss_of}
use Rattle.protocol.specs.Runs.{number, perform, effect, unless}
use Rattle.protocol.specs.Rehearsals.{Rehearsed, adds, granted_ticks}
use Rattle.protocol.proofs.Clock.{ticked_clock}
use Rattle.protocol.proofs.Making.{some_number}

module _ (rules : Rules) where
  delivered_clock : (o : Option Beat) (i leg : ℕ) (s : State) → (after_arrival o i leg s).table.clock ≡ s.table.clock
  delivered_clock None i leg s = refl
  delivered_clock (Some b) i leg s = refl

  lost_clock : (o : Option Beat) (i leg : ℕ) (s : State) → (after_loss_of o i leg s).table.clock ≡ s.table.clock
  lost_clock None i leg s = refl
  lost_clock (Some b) i leg s = refl

  pub done_clock : (call : Call) (s : State) → (effect rules call s).table.clock ≡ adds call true + s.table.clock
  done_clock Tick s = omega (arith, ticked_clock rules s)
  done_clock (Deliver i leg) s = omega (arith, delivered_clock (on_leg leg (the i s.table)) i leg s)
  done_clock (Lose i leg) s = omega (arith, lost_clock (on_leg leg (the i s.table)) i leg s)
  done_clock (Crash zero) s = omega arith
  done_clock (Crash (suc i)) s = omega arith
  done_clock (Join i) s = omega arith
  done_clock (Leave i) s = omega arith

  nothing_added : (call : Call) → adds call false ≡ 0
  nothing_added Tick = refl
  nothing_added (Deliver i leg) = refl
  nothing_added (Lose i leg) = refl
  nothing_added (Crash i) = refl
  nothing_added (Join i) = refl
  nothing_added (Leave i) = refl

  refused_clock : (call : Call) (k n : ℕ) (s : State) → k ≡ suc n → (unless k s (effect rules call s)).table.clock ≡ adds call false + s.table.clock
  refused_clock call zero n s e = absurd (omega arith)
  refused_clock call (suc k) n s e = omega (arith, nothing_added call)

  performed_clock : (call : Call) (s : State) (a : Result (Unit {0}) Refusal) → number_told a ≡ number rules call s →
      (perform rules call s).table.clock ≡ adds call (is_ok a) + s.table.clock
  performed_clock call s (Ok u) e = ap (λ k. (unless k s (effect rules call s)).table.clock) (sym e) ∙ done_clock call s
  performed_clock call s (Err r) e = let n = some_number r in refused_clock call (number rules call s) n.0 s (sym e ∙ n.1)

  clock_on : (xs : List Step) (s s' : State) → Rehearsed rules s xs s' → s'.table.clock ≡ s.table.clock + granted_ticks xs
  clock_on [] s s' h = omega (arith, ap (λ (t : State). t.table.clock) h)
  clock_on (x ∷ xs) s s' h = omega (arith, performed_clock x.call s x.answer h.0, clock_on xs (perform rules x.call s) s' h.1)

pub counts_ticks : (rules : Rules) (steps : List Step) (s : State) → Rehearsed rules (opening rules) steps s → s.table.clock ≡ granted_ticks steps
counts_ticks rules steps s h = omega (arith, clock_on rules steps (opening rules) s h)
