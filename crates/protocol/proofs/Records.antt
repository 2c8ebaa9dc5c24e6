-- The records of a log stay as they are, and what a call may write: records of the root or a party of the plan,
-- dated at the clock, of which an arrival or a loss links to the sending of a beat that was under way.
use Rattle.std.proofs.Common.{Bool, List, [], ap, arith, cond, false, length, refl, subst, suc, sym, true, zero, ℕ, ◌++◌, ◌+◌, ◌<◌, ◌∙◌, ◌∷◌, ◌≡◌, ◌≤◌}
use native.Mathlib.Decide.{dec_lt}
use Rattle.std.proofs.lemmas.List.{get_or_append_left, get_or_push, length_push}
use Rattle.protocol.specs.declared.happening.HappeningKind.{HappeningKind}
use Rattle.protocol.specs.declared.happening.HappeningKind.TheVariants.{Arrived}
use Rattle.protocol.specs.declared.happening.Happening.{Happening}
use Rattle.pace.specs.Meaning.{Meaning}
use Rattle.protocol.specs.Rules.{Rules}
use Rattle.protocol.specs.Walk.{folds}
use Rattle.protocol.specs.State.{happening, with_linked}
use Rattle.protocol.specs.Beats.{SentBy, happening_at, nothing, settles}
use Rattle.protocol.specs.Deliveries.{ArrivedBy}

clash : (b : Bool) → b ≡ true → b ≡ false → ⊥
clash b e f = let z : ◌≡◌ {A = ℕ} 0 1 = cc in omega arith

-- the log has grown by records of which Q holds
pub record Grown (Q : Happening → Type 0) (log log' : List Happening) : Type 0 where
  pub longer : length log ≤ length log'
  pub kept : (k : ℕ) → k < length log → happening_at log' k ≡ happening_at log k
  pub fresh : (k : ℕ) → length log ≤ k → k < length log' → Q (happening_at log' k)

-- the record is owned by the root or one of n parties
abbrev pub OwnedBy : ℕ → Happening → Type 0
OwnedBy n h = h.owner ≤ n

-- and dated at c; where it settles a beat, S holds of the place of the sending
abbrev pub Wrote : ℕ → ℕ → (ℕ → Type 0) → Happening → Type 0
Wrote n c S h = (h.owner ≤ n) × (h.tick ≡ c) × (settles h.kind ≡ true → S h.link)

-- what stands in a log still stands there

pub sent_still : {Q : Happening → Type 0} (log log' : List Happening) (o k : ℕ) → Grown Q log log' → SentBy log o k → SentBy log' o k
sent_still log log' o k g s =
    let e = g.kept k s.below in
    record { below = omega (arith, g.longer, s.below); kind = ap (λ (h : Happening). h.kind) e ∙ s.kind; owner = ap (λ (h : Happening). h.owner) e ∙ s.owner }

pub arrived_still : {Q : Happening → Type 0} (log log' : List Happening) (c o k : ℕ) → Grown Q log log' → ArrivedBy log c o k → ArrivedBy log' c o k
arrived_still log log' c o k g a =
    let e = g.kept k a.below in
    record {
      below = omega (arith, g.longer, a.below);
      kind = ap (λ (h : Happening). h.kind) e ∙ a.kind;
      tick = ap (λ (h : Happening). h.tick) e ∙ a.tick;
      owner = ap (λ (h : Happening). h.owner) e ∙ a.owner;
    }

pub arrived_push : (log : List Happening) (c o place : ℕ) → ArrivedBy (with_linked c o Arrived place log) c o (length log)
arrived_push log c o place =
    let h = happening c o Arrived place in
    let e = get_or_push log h nothing (length log) refl in
    record {
      below = omega (arith, length_push log h);
      kind = ap (λ (h : Happening). h.kind) e;
      tick = ap (λ (h : Happening). h.tick) e;
      owner = ap (λ (h : Happening). h.owner) e;
    }

module _ (Q : Happening → Type 0) where
  pub grown_stays : (log : List Happening) → Grown Q log log
  grown_stays log = record { longer = omega arith; kept = λ k h. refl; fresh = λ k lo hi. absurd (omega arith) }

  pub grown_further : (x y z : List Happening) → Grown Q x y → Grown Q y z → Grown Q x z
  grown_further x y z f g = record {
    longer = omega (arith, f.longer, g.longer);
    kept = λ k h. g.kept k (omega (arith, f.longer)) ∙ f.kept k h;
    fresh = λ k lo hi. elim (dec_lt k (length y)) [
      | yes early ↦ subst Q (sym (g.kept k early)) (f.fresh k lo early)
      | no late ↦ g.fresh k (omega arith) hi
    ];
  }

  pub grown_push : (log : List Happening) (h : Happening) → Q h → Grown Q log (log ++ h ∷ [])
  grown_push log h q = record {
    longer = omega (arith, length_push log h);
    kept = λ k below. get_or_append_left log (h ∷ []) nothing k below;
    fresh = λ k lo hi. subst Q (sym (get_or_push log h nothing k (omega (arith, length_push log h)))) q;
  }

  pub grown_cond : (b : Bool) (log x y : List Happening) → Grown Q log x → Grown Q log y → Grown Q log (cond b x y)
  grown_cond true log x y f g = f
  grown_cond false log x y f g = g

  pub folds_grow :
      {A : Type 0} (n : ℕ) (g : ℕ → List Happening → A → List Happening) →
      ((j : ℕ) (log : List Happening) (x : A) → j ≤ n → Grown Q log (g j log x)) →
      (j i : ℕ) (log : List Happening) (xs : List A) → j + i ≤ suc n → Grown Q log (folds g j i log xs)
  folds_grow n g grows j zero log xs h = grown_stays log
  folds_grow n g grows j (suc i) log [] h = grown_stays log
  folds_grow n g grows j (suc i) log (x ∷ xs) h =
      grown_further _ _ _ (grows j log x (omega arith)) (folds_grow n g grows (suc j) i (g j log x) xs (omega arith))

pub weaken_grown : (Q R : Happening → Type 0) (log log' : List Happening) → ((h : Happening) → Q h → R h) → Grown Q log log' → Grown R log log'
weaken_grown Q R log log' f g = record { longer = g.longer; kept = g.kept; fresh = λ k lo hi. f _ (g.fresh k lo hi) }

module _ (rules : Rules) (S : ℕ → Type 0) where
  abbrev n : ℕ
  n = rules.plan.n

  abbrev m : Meaning
  m = rules.meaning

  -- a record of an owner up to n that settles nothing
  pub grown_by_one : (c : ℕ) (log : List Happening) (i : ℕ) (w : HappeningKind) (l : ℕ) → i ≤ n → settles w ≡ false → Grown (Wrote n c S) log (log ++ happening c i w l ∷ [])
  grown_by_one c log i w l h none = grown_push (Wrote n c S) log (happening c i w l) (h, refl, λ is. absurd (clash _ is none))
