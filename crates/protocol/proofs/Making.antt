-- Calls made one after another, up to the first refusal.
use Rattle.std.proofs.Common.{◌≡◌, ℕ, zero, suc, ◌+◌, ◌-◌, ◌<◌, List, [], ◌∷◌, ◌++◌, replicate, sym, refl, ap, ◌∙◌, arith}
use Rattle.protocol.specs.declared.call.Call.{Call}
use Rattle.protocol.specs.declared.call.Call.TheVariants.{Tick}
use Rattle.protocol.specs.declared.refusal.Refusal.{Refusal}
use Rattle.protocol.specs.declared.refusal.Refusal.TheVariants.{NoSuchParty, KindForbids, WrongState, NoBeat, ClockAtEnd, BeatDue, NoSlot, LogDiffers}
use Rattle.protocol.specs.Answers.{refusal_number}
use Rattle.protocol.specs.Rules.{Rules}
use Rattle.protocol.specs.State.{State}
use Rattle.protocol.specs.Runs.{number, perform, effect, unless}
use Rattle.protocol.specs.Making.{Making, goes_on, making, Same}
use Rattle.protocol.proofs.Clock.{tick_clock}

-- no refusal has number 0
pub some_number : (e : Refusal) → (k : ℕ) × (refusal_number e ≡ suc k)
some_number NoSuchParty = (5, refl)
some_number KindForbids = (6, refl)
some_number WrongState = (7, refl)
some_number NoBeat = (8, refl)
some_number ClockAtEnd = (9, refl)
some_number BeatDue = (10, refl)
some_number NoSlot = (11, refl)
some_number LogDiffers = (12, refl)

pub same_trans : (a b c : Making) → Same a b → Same b c → Same a c
same_trans a b c p q = record { state = p.state ∙ q.state; number = p.number ∙ q.number }

module _ (rules : Rules) where
  abbrev made : List Call → State → Making
  made = making rules

  -- a call that is not refused leads on to the others
  pub granted : (call : Call) (calls : List Call) (s s' : State) → number rules call s ≡ 0 → s' ≡ perform rules call s → Same (made (call ∷ calls) s) (made calls s')
  granted call calls s s' z e =
      let rest = made calls (perform rules call s) in
      record {
        state = ap (λ k. (goes_on k call s rest).state) z ∙ ap (λ t. (made calls t).state) (sym e);
        number = ap (λ k. (goes_on k call s rest).number) z ∙ ap (λ t. (made calls t).number) (sym e);
      }

  -- a refused call is the last
  pub refused : (call : Call) (calls : List Call) (s s' : State) (k : ℕ) → number rules call s ≡ suc k → s' ≡ perform rules call s →
      ((made (call ∷ calls) s).state ≡ s') × ((made (call ∷ calls) s).number ≡ suc k)
  refused call calls s s' k z e =
      let rest = made calls (perform rules call s) in (
        ap (λ n. (goes_on n call s rest).state) z ∙ sym (e ∙ ap (λ n. unless n s (effect rules call s)) z),
        ap (λ n. (goes_on n call s rest).number) z,
      )

  -- one tick of those that are missing to a tick
  pub tick_on : (tick : ℕ) (s s' : State) → s.table.clock < tick → number rules Tick s ≡ 0 → s' ≡ perform rules Tick s →
      Same (made (replicate (tick - s.table.clock) Tick) s) (made (replicate (tick - s'.table.clock) Tick) s')
  tick_on tick s s' h z e =
      let c : s'.table.clock ≡ s.table.clock + 1 = ap (λ (t : State). t.table.clock) e ∙ tick_clock rules s z in
      let f : tick - s.table.clock ≡ suc (tick - s'.table.clock) = omega (arith, c) in
      let w = granted Tick (replicate (tick - s'.table.clock) Tick) s s' z e in
      record {
        state = ap (λ n. (made (replicate n Tick) s).state) f ∙ w.state;
        number = ap (λ n. (made (replicate n Tick) s).number) f ∙ w.number;
      }

  -- a refused tick of those that are missing to a tick
  pub tick_refused : (tick : ℕ) (s s' : State) (k : ℕ) → s.table.clock < tick → number rules Tick s ≡ suc k → s' ≡ perform rules Tick s →
      ((made (replicate (tick - s.table.clock) Tick) s).state ≡ s') × ((made (replicate (tick - s.table.clock) Tick) s).number ≡ suc k)
  tick_refused tick s s' k h z e =
      let f : tick - s.table.clock ≡ suc (tick - (s.table.clock + 1)) = omega arith in
      let w = refused Tick (replicate (tick - (s.table.clock + 1)) Tick) s s' k z e in
      (ap (λ n. (made (replicate n Tick) s).state) f ∙ w.0, ap (λ n. (made (replicate n Tick) s).number) f ∙ w.1)

  then_on : (k : ℕ) (call : Call) (s : State) (a b : Making) (ys : List Call) → (goes_on k call s a).number ≡ 0 →
      (a.number ≡ 0 → Same b (made ys a.state)) → Same (goes_on k call s b) (made ys (goes_on k call s a).state)
  then_on zero call s a b ys h f = let r = f h in record { state = r.state; number = r.number }
  then_on (suc k) call s a b ys h f = absurd (omega arith)

  -- calls of which none is refused, and then others
  pub makes_then : (xs ys : List Call) (s : State) → (made xs s).number ≡ 0 → Same (made (xs ++ ys) s) (made ys (made xs s).state)
  makes_then [] ys s h = record { state = refl; number = refl }
  makes_then (x ∷ xs) ys s h =
      let s' = perform rules x s in
      then_on (number rules x s) x s (made xs s') (made (xs ++ ys) s') ys h (makes_then xs ys s')

  stops_on : (k : ℕ) (call : Call) (s : State) (a b : Making) (n : ℕ) → (goes_on k call s a).number ≡ suc n → (a.number ≡ suc n → Same b a) →
      Same (goes_on k call s b) (goes_on k call s a)
  stops_on zero call s a b n h f = let r = f h in record { state = r.state; number = r.number }
  stops_on (suc k) call s a b n h f = record { state = refl; number = refl }

  -- calls of which one is refused, and then others
  pub makes_no_more : (xs ys : List Call) (s : State) (n : ℕ) → (made xs s).number ≡ suc n → Same (made (xs ++ ys) s) (made xs s)
  makes_no_more [] ys s n h = absurd (omega arith)
  makes_no_more (x ∷ xs) ys s n h =
      let s' = perform rules x s in
      stops_on (number rules x s) x s (made xs s') (made (xs ++ ys) s') n h (makes_no_more xs ys s' n)

  one : (k : ℕ) (call : Call) (s t : State) →
      Same (goes_on k call s (record { state = unless k s t; calls = []; number = 0 })) (record { state = unless k s t; calls = []; number = k })
  one zero call s t = record { state = refl; number = refl }
  one (suc k) call s t = record { state = refl; number = refl }

  -- one call alone
  pub makes_one : (call : Call) (s : State) → Same (made (call ∷ []) s) (record { state = perform rules call s; calls = []; number = number rules call s })
  makes_one call s = one (number rules call s) call s (effect rules call s)
