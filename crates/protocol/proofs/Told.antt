-- What the log tells of each party and of the root, when a record more is written and after a pass.
use Rattle.std.proofs.Common.{Bool, List, [], ap, arith, cond, eqb, false, get_or, length, length-set, refl, set, subst, suc, sym, true, zero, ℕ, ◌++◌, ◌+◌, ◌-◌, ◌<◌, ◌∙◌, ◌∷◌, ◌≡◌, ◌≤◌}
use Rattle.std.proofs.lemmas.Bool.Decides.{nat_tests}
use Rattle.pace.specs.Meaning.{Meaning}
use Rattle.protocol.specs.declared.party.Party.{Party}
use Rattle.protocol.specs.declared.table.Root.{Root}
use Rattle.protocol.specs.declared.table.Root.TheVariants.{Running}
use Rattle.protocol.specs.declared.kind.GroupKind.{GroupKind}
use Rattle.protocol.specs.declared.happening.Happening.{Happening}
use Rattle.protocol.specs.Rules.{Rules}
use Rattle.protocol.specs.Walk.{folds, walks}
use Rattle.protocol.specs.Party.{nobody}
use Rattle.protocol.specs.State.{State, the}
use Rattle.protocol.specs.Told.{Account, account_of, after_reading, first_account, root_as, root_in, tells_as, account_in}

-- what records make of x

module _ {A : Type 0} (f : A → Happening → A) (i : ℕ) where
  read_push : (x : A) (log : List Happening) (h : Happening) → after_reading f i x (log ++ h ∷ []) ≡ cond (eqb h.owner i) (f (after_reading f i x log) h) (after_reading f i x log)
  read_push x [] h = refl
  read_push x (y ∷ log) h = read_push (cond (eqb y.owner i) (f x y) x) log h

  cond_same : (b : Bool) (x y : A) → y ≡ x → cond b y x ≡ x
  cond_same true x y e = e
  cond_same false x y e = refl

  -- a record that tells nothing
  pub read_idle : (x : A) (log : List Happening) (h : Happening) → ((y : A) → f y h ≡ y) → after_reading f i x (log ++ h ∷ []) ≡ after_reading f i x log
  read_idle x log h idle = read_push x log h ∙ cond_same (eqb h.owner i) (after_reading f i x log) _ (idle _)

  not_mine : (o : ℕ) → (o ≡ i → ⊥) → eqb o i ≡ false
  not_mine o e = grind (arith, nat_tests)

  is_mine : (o : ℕ) → o ≡ i → eqb o i ≡ true
  is_mine o e = grind (arith, nat_tests)

  -- a record of another owner
  pub read_other : (x : A) (log : List Happening) (h : Happening) → (h.owner ≡ i → ⊥) → after_reading f i x (log ++ h ∷ []) ≡ after_reading f i x log
  read_other x log h other =
      read_push x log h ∙ ap (λ b. cond b (f (after_reading f i x log) h) (after_reading f i x log)) (not_mine h.owner other)

  -- a record of this owner
  pub read_mine : (x : A) (log : List Happening) (h : Happening) → h.owner ≡ i → after_reading f i x (log ++ h ∷ []) ≡ f (after_reading f i x log) h
  read_mine x log h mine =
      read_push x log h ∙ ap (λ b. cond b (f (after_reading f i x log) h) (after_reading f i x log)) (is_mine h.owner mine)

  -- a walk of which no turn tells anything
  pub read_past :
      {B : Type 0} (x : A) (g : ℕ → List Happening → B → List Happening) →
      ((j : ℕ) (log : List Happening) (b : B) → i < j → after_reading f i x (g j log b) ≡ after_reading f i x log) →
      (j n : ℕ) (log : List Happening) (bs : List B) → i < j → after_reading f i x (folds g j n log bs) ≡ after_reading f i x log
  read_past x g other j zero log bs h = refl
  read_past x g other j (suc n) log [] h = refl
  read_past x g other j (suc n) log (b ∷ bs) h = read_past x g other (suc j) n (g j log b) bs (omega arith) ∙ other j log b h

-- the element at k of a list that was changed at j
set_at :
    {A : Type 0} (P : A → Type 0) (xs : List A) (j k : ℕ) (a d : A) → k < length xs → (j ≡ k → P a) → ((j ≡ k → ⊥) → P (get_or xs k d)) → P (get_or (set xs j a) k d)
set_at P [] j k a d h account_mine account_other = absurd (omega arith)
set_at P (x ∷ xs) zero zero a d h account_mine account_other = account_mine refl
set_at P (x ∷ xs) zero (suc k) a d h account_mine account_other = account_other (λ e. absurd (omega arith))
set_at P (x ∷ xs) (suc j) zero a d h account_mine account_other = account_other (λ e. absurd (omega arith))
set_at P (x ∷ xs) (suc j) (suc k) a d h account_mine account_other =
    set_at P xs j k a d (omega arith) (λ e. account_mine (ap suc e)) (λ e. account_other (λ f. e (omega arith)))

pub set_long : (n : ℕ) (ps : List Party) (i : ℕ) (p : Party) → n ≤ length ps → n ≤ length (set ps i p)
set_long n ps i p h = omega (arith, length-set ps i p)

-- what a call makes of the account of its party

-- of one party i
module _ (rules : Rules) (i : ℕ) (lo : 1 ≤ i) (hi : i ≤ rules.plan.n) where
  abbrev kind : GroupKind
  kind = rules.plan.kind

  abbrev n : ℕ
  n = rules.plan.n

  abbrev m : Meaning
  m = rules.meaning

  abbrev T : List Happening → Account
  T log = account_in kind i log

  abbrev account_step : Account → Happening → Account
  account_step a h = tells_as h.kind h.tick a

  pub account_idle : (log : List Happening) (h : Happening) → ((a : Account) → account_step a h ≡ a) → T (log ++ h ∷ []) ≡ T log
  account_idle log h e = read_idle account_step i (first_account kind) log h e

  pub account_other : (log : List Happening) (h : Happening) → (h.owner ≡ i → ⊥) → T (log ++ h ∷ []) ≡ T log
  account_other log h e = read_other account_step i (first_account kind) log h e

  pub account_mine : (log : List Happening) (h : Happening) → h.owner ≡ i → T (log ++ h ∷ []) ≡ account_step (T log) h
  account_mine log h e = read_mine account_step i (first_account kind) log h e

  pub account_cond : (b : Bool) (x y : List Happening) (a : Account) → T x ≡ a → T y ≡ a → T (cond b x y) ≡ a
  account_cond true x y a e f = e
  account_cond false x y a e f = f

  -- one party has changed
  pub account_changes :
      (j : ℕ) (p : Party) (ps : List Party) (log log' : List Happening) → 1 ≤ j → n ≤ length ps → T log ≡ account_of (get_or ps (i - 1) nobody) →
      (j ≡ i → T log ≡ account_of (get_or ps (j - 1) nobody) → T log' ≡ account_of p) → ((j ≡ i → ⊥) → T log' ≡ T log) →
      T log' ≡ account_of (get_or (set ps (j - 1) p) (i - 1) nobody)
  account_changes j p ps log log' low long e here there =
      set_at (λ q. T log' ≡ account_of q) ps (j - 1) (i - 1) p nobody (omega arith)
      (λ same. here (omega arith) (subst (λ k. T log ≡ account_of (get_or ps k nobody)) (sym same) e))
      (λ apart. there (λ same. apart (omega arith)) ∙ e)

  abbrev pub TellsParty : State → Type 0
  TellsParty s = T s.log ≡ account_of (the i s.table)

  -- a walk whose turn of party i tells what it does to it
  pub account_passes :
      (f : ℕ → List Happening → Party → Party) (g : ℕ → List Happening → Party → List Happening) →
      ((j : ℕ) (log : List Happening) (p : Party) → (j ≡ i → ⊥) → T (g j log p) ≡ T log) →
      ((j : ℕ) (log : List Happening) (p : Party) → j ≡ i → T log ≡ account_of p → T (g j log p) ≡ account_of (f j log p)) →
      (j n : ℕ) (log : List Happening) (ps : List Party) (k : ℕ) → j + k ≡ i → k < n → k < length ps →
      T log ≡ account_of (get_or ps k nobody) → T (folds g j n log ps) ≡ account_of (get_or (walks f g j n log ps) k nobody)
  account_passes f g there here j zero log ps k at h long e = absurd (omega arith)
  account_passes f g there here j (suc n) log [] k at h long e = absurd (omega arith)
  account_passes f g there here j (suc n) log (p ∷ ps) zero at h long e =
      read_past account_step i (first_account kind) g (λ j log p past. there j log p (λ z. absurd (omega arith))) (suc j) n (g j log p) ps (omega arith)
      ∙ here j log p (omega arith) e
  account_passes f g there here j (suc n) log (p ∷ ps) (suc k) at h long e =
      account_passes f g there here (suc j) n (g j log p) ps k (omega arith) (omega arith) (omega arith) (there j log p (λ z. absurd (omega arith)) ∙ e)

-- of the root

abbrev pub root_step : Root → Happening → Root
root_step r h = root_as h.kind h.tick r

pub root_idle : (log : List Happening) (h : Happening) → ((r : Root) → root_step r h ≡ r) → root_in (log ++ h ∷ []) ≡ root_in log
root_idle log h e = read_idle root_step 0 Running log h e

pub root_other : (log : List Happening) (h : Happening) → 1 ≤ h.owner → root_in (log ++ h ∷ []) ≡ root_in log
root_other log h e = read_other root_step 0 Running log h (λ z. absurd (omega arith))

pub root_conds : (b : Bool) (x y : List Happening) (r : Root) → root_in x ≡ r → root_in y ≡ r → root_in (cond b x y) ≡ r
root_conds true x y r e f = e
root_conds false x y r e f = f

abbrev pub TellsRoot : State → Type 0
TellsRoot s = root_in s.log ≡ s.table.root
