-- A tick that is not refused adds 1 to the clock.
use Rattle.std.proofs.Common.{◌≡◌, ℕ, ◌+◌, Bool, true, false, refl, ap, ◌∙◌}
use Rattle.pace.specs.Meaning.{Meaning}
use Rattle.protocol.specs.declared.call.Call.TheVariants.{Tick}
use Rattle.protocol.specs.Rules.{Rules}
use Rattle.protocol.specs.State.{State}
use Rattle.protocol.specs.calls.Tick.{after_count, after_verdict_of, after_round_if, round_ends, after_tick}
use Rattle.protocol.specs.Runs.{number, perform, unless}

module _ (rules : Rules) where
  abbrev m : Meaning
  m = rules.meaning

  abbrev n : ℕ
  n = rules.plan.n

  settled_clock : (b : Bool) (s : State) → (after_verdict_of b rules s).table.clock ≡ s.table.clock
  settled_clock true s = refl
  settled_clock false s = refl

  pub rounded_clock : (b : Bool) (s : State) → (after_round_if b rules s).table.clock ≡ s.table.clock
  rounded_clock true s = settled_clock _ (after_count n s)
  rounded_clock false s = refl

  pub ticked_clock : (s : State) → (after_tick rules s).table.clock ≡ s.table.clock + 1
  ticked_clock s = ap (λ c. c + 1) (rounded_clock (round_ends s.table) s)

  pub tick_clock : (s : State) → number rules Tick s ≡ 0 → (perform rules Tick s).table.clock ≡ s.table.clock + 1
  tick_clock s e = ap (λ k. (unless k s (after_tick rules s)).table.clock) e ∙ ticked_clock s
