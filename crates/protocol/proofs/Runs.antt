-- Runs: what each call keeps holds of every run; runs cut in two;
-- and the steps of a run as the run of their calls.
use Rattle.std.proofs.Common.{◌≡◌, ℕ, zero, suc, List, [], ◌∷◌, ◌++◌, map, sym, refl, ap, ◌∙◌, subst}
use Rattle.std.proofs.lemmas.List.{append-nil, append_assoc}
use Rattle.protocol.specs.declared.call.Call.{Call}
use Rattle.protocol.specs.declared.call.Step.{Step}
use Rattle.protocol.specs.Rules.{Rules}
use Rattle.protocol.specs.State.{State}
use Rattle.protocol.specs.Runs.{number, effect, unless, perform, state_after, numbers}
use Rattle.protocol.specs.Rehearsals.{Rehearsed, call_of, answer_of}

module _ (rules : Rules) where
  pub run_append : (xs ys : List Call) (s : State) →
      state_after rules (xs ++ ys) s ≡ state_after rules ys (state_after rules xs s)
  run_append [] ys s = refl
  run_append (x ∷ xs) ys s = run_append xs ys (perform rules x s)

  pub granted_effect : (call : Call) (s : State) → number rules call s ≡ 0 →
      perform rules call s ≡ effect rules call s
  granted_effect call s z = ap (λ k. unless k s (effect rules call s)) z

  module _ (s₀ : State) where
    abbrev after : List Call → State
    after calls = state_after rules calls s₀

    -- what holds of the calls so far and of the state that they lead to from s₀ on,
    -- if it holds at first and each call keeps it, granted or refused
    module _ (P : List Call → State → Type 0)
        (granted : (before : List Call) (call : Call) → number rules call (after before) ≡ 0 →
        P before (after before) → P (before ++ call ∷ []) (effect rules call (after before)))
        (refused : (before : List Call) (call : Call) (k : ℕ) →
        number rules call (after before) ≡ suc k →
        P before (after before) → P (before ++ call ∷ []) (after before)) where
      performed :
          (before : List Call) (call : Call) (k : ℕ) → number rules call (after before) ≡ k →
          P before (after before) →
          P (before ++ call ∷ []) (unless k (after before) (effect rules call (after before)))
      performed before call zero e p = granted before call e p
      performed before call (suc k) e p = refused before call k e p

      further : (before later : List Call) → P before (after before) →
          P (before ++ later) (after (before ++ later))
      further before [] p = subst (λ calls. P calls (after calls)) (sym (append-nil before)) p
      further before (call ∷ later) p =
          let k = number rules call (after before) in
          let next : P (before ++ call ∷ []) (after (before ++ call ∷ [])) =
          subst (P (before ++ call ∷ [])) (sym (run_append before (call ∷ []) s₀))
          (performed before call k refl p) in
          subst (λ calls. P calls (after calls)) (append_assoc before (call ∷ []) later)
          (further (before ++ call ∷ []) later next)

      pub every_run : P [] s₀ → (calls : List Call) → P calls (after calls)
      every_run p calls = further [] calls p

    -- the same of the state alone, which a refused call leaves as it was
    pub every_state : (P : State → Type 0) →
        ((call : Call) (s : State) → number rules call s ≡ 0 → P s → P (effect rules call s)) →
        P s₀ → (calls : List Call) → P (after calls)
    every_state P granted p calls =
        every_run (λ _ s. P s) (λ before call z h. granted call (after before) z h)
        (λ before call k z h. h) p calls

  pub run_of : (s : State) (xs : List Step) (s' : State) → Rehearsed rules s xs s' →
      (s' ≡ state_after rules (map call_of xs) s)
      × (map answer_of xs ≡ numbers rules (map call_of xs) s)
  run_of s [] s' h = (h, refl)
  run_of s (x ∷ xs) s' h =
      let r = run_of (perform rules x.call s) xs s' h.1 in (
        r.0,
        ap (λ k. k ∷ map answer_of xs) h.0 ∙ ap (λ ks. number rules x.call s ∷ ks) r.1,
      )
