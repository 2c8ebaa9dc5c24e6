-- From one element of a list to each.
use Rattle.std.proofs.Common.{take, ◌≡◌, ℕ, zero, suc, ◌+◌, ◌<◌, ◌≤◌, Bool, true, false, ◌||◌, List, [], ◌∷◌, length, get_or, set, refl, ap, ◌∙◌, arith}
use Rattle.std.specs.List.{list_any, fold}
use Rattle.protocol.specs.Walk.{folds, walks}
use Rattle.protocol.proofs.Walks.{folds_suc, length_walks}

pub set_each :
    {A : Type 0} (P : A → Type 0) (xs : List A) (i k : ℕ) (a d : A) → (i ≡ k → P a) → P (get_or xs k d) → P (get_or (set xs i a) k d)
set_each P [] i k a d pa h = h
set_each P (x ∷ xs) zero zero a d pa h = pa refl
set_each P (x ∷ xs) zero (suc k) a d pa h = h
set_each P (x ∷ xs) (suc i) zero a d pa h = h
set_each P (x ∷ xs) (suc i) (suc k) a d pa h = set_each P xs i k a d (λ e. pa (ap suc e)) h

-- what holds of each element holds after a write
pub set_all : {A : Type 0} (P : A → Type 0) (xs : List A) (i : ℕ) (a d : A) → P a → ((k : ℕ) → P (get_or xs k d)) → (k : ℕ) → P (get_or (set xs i a) k d)
set_all P xs i a d pa h k = set_each P xs i k a d (λ _. pa) (h k)

-- of the same list changed at one place in two ways
pub set_two :
    {A : Type 0} (P : A → A → Type 0) (xs : List A) (i k : ℕ) (a b d : A) → (i ≡ k → P a b) → P (get_or xs k d) (get_or xs k d) → P (get_or (set xs i a) k d) (get_or (set xs i b) k d)
set_two P [] i k a b d pab h = h
set_two P (x ∷ xs) zero zero a b d pab h = pab refl
set_two P (x ∷ xs) zero (suc k) a b d pab h = h
set_two P (x ∷ xs) (suc i) zero a b d pab h = h
set_two P (x ∷ xs) (suc i) (suc k) a b d pab h = set_two P xs i k a b d (λ e. pab (ap suc e)) h

module _ {S A : Type 0} (f : ℕ → S → A → A) (g : ℕ → S → A → S) where
  pub walks_long : (k i : ℕ) (s : S) (xs : List A) (n : ℕ) → n ≤ length xs → n ≤ length (walks f g k i s xs)
  walks_long k i s xs n h = omega (arith, length_walks f g k i s xs)

  -- what f makes of each of the first n
  pub walks_each :
      (P Q : A → Type 0) → ((j : ℕ) (s : S) (x : A) → P x → Q (f j s x)) →
      (j n : ℕ) (s : S) (xs : List A) (d : A) (k : ℕ) → k < n → n ≤ length xs → P (get_or xs k d) → Q (get_or (walks f g j n s xs) k d)
  walks_each P Q step j zero s xs d k h long p = absurd (omega arith)
  walks_each P Q step j (suc n) s [] d k h long p = absurd (omega arith)
  walks_each P Q step j (suc n) s (x ∷ xs) d zero h long p = step j s x p
  walks_each P Q step j (suc n) s (x ∷ xs) d (suc k) h long p =
      walks_each P Q step (suc j) n (g j s x) xs d k (omega arith) (omega arith) p

  -- the element at k after a walk, by the state at its stop
  pub walks_at : (j n : ℕ) (s : S) (xs : List A) (d : A) (k : ℕ) → k < n → n ≤ length xs → get_or (walks f g j n s xs) k d ≡ f (k + j) (folds g j k s xs) (get_or xs k d)
  walks_at j zero s xs d k h long = absurd (omega arith)
  walks_at j (suc n) s [] d k h long = absurd (omega arith)
  walks_at j (suc n) s (x ∷ xs) d zero h long = ap (λ i. f i s x) (omega arith)
  walks_at j (suc n) s (x ∷ xs) d (suc k) h long =
      walks_at (suc j) n (g j s x) xs d k (omega arith) (omega arith) ∙ ap (λ i. f i (folds g (suc j) k (g j s x) xs) (get_or xs k d)) (omega arith)

  pub folds_next : (j : ℕ) (s : S) (xs : List A) (d : A) (k : ℕ) → k < length xs → folds g j (suc k) s xs ≡ g (k + j) (folds g j k s xs) (get_or xs k d)
  folds_next j s xs d k h = folds_suc f g j k s xs d h ∙ ap (λ i. g i (folds g j k s xs) (get_or xs k d)) (omega arith)

or_first : (a b : Bool) → (a || b) ≡ false → a ≡ false
or_first true b e = e
or_first false b e = refl

or_rest : (a b : Bool) → (a || b) ≡ false → b ≡ false
or_rest true b e = absurd (grind arith)
or_rest false b e = e

module _ {A : Type 0} (f : A → Bool) where
  pub any_false :
      (n : ℕ) (xs : List A) (d : A) → list_any f (take n xs) ≡ false →
      (k : ℕ) → k < n → n ≤ length xs → f (get_or xs k d) ≡ false
  any_false zero xs d e k h long = absurd (omega arith)
  any_false (suc n) [] d e k h long = absurd (omega arith)
  any_false (suc n) (x ∷ xs) d e zero h long = or_first (f x) (list_any f (take n xs)) e
  any_false (suc n) (x ∷ xs) d e (suc k) h long =
      any_false n xs d (or_rest (f x) (list_any f (take n xs)) e) k (omega arith) (omega arith)

  -- also past the end of the list, where the default is not such
  pub none_of_any :
      (n : ℕ) (xs : List A) (d : A) → f d ≡ false → list_any f (take n xs) ≡ false → (k : ℕ) → k < n → f (get_or xs k d) ≡ false
  none_of_any zero xs d not_d e k h = absurd (omega arith)
  none_of_any (suc n) [] d not_d e k h = not_d
  none_of_any (suc n) (x ∷ xs) d not_d e zero h = or_first (f x) (list_any f (take n xs)) e
  none_of_any (suc n) (x ∷ xs) d not_d e (suc k) h =
      none_of_any n xs d not_d (or_rest (f x) (list_any f (take n xs)) e) k (omega arith)

  pub false_any :
      (n : ℕ) (xs : List A) (d : A) → ((k : ℕ) → k < n → f (get_or xs k d) ≡ false) → list_any f (take n xs) ≡ false
  false_any zero xs d h = refl
  false_any (suc n) [] d h = refl
  false_any (suc n) (x ∷ xs) d h =
      ap (λ b. b || list_any f (take n xs)) (h 0 (omega arith)) ∙ false_any n xs d (λ k i. h (suc k) (omega arith))

module _ {A : Type 0} (g : ℕ → A → ℕ) (falls : (s : ℕ) (x : A) → g s x ≤ s) where
  pub fold_falls : (s : ℕ) (xs : List A) → fold g s xs ≤ s
  fold_falls s [] = omega arith
  fold_falls s (x ∷ xs) = omega (arith, falls s x, fold_falls (g s x) xs)

  -- a fold that never rises ends below what any element gives
  pub fold_below :
      (P : A → Type 0) (v : A → ℕ) → ((s : ℕ) (x : A) → P x → g s x ≤ v x) →
      (n s : ℕ) (xs : List A) (d : A) (k : ℕ) → k < n → n ≤ length xs → P (get_or xs k d) → fold g s (take n xs) ≤ v (get_or xs k d)
  fold_below P v low zero s xs d k h long p = absurd (omega arith)
  fold_below P v low (suc n) s [] d k h long p = absurd (omega arith)
  fold_below P v low (suc n) s (x ∷ xs) d zero h long p = omega (arith, low s x p, fold_falls (g s x) (take n xs))
  fold_below P v low (suc n) s (x ∷ xs) d (suc k) h long p = fold_below P v low n (g s x) xs d k (omega arith) (omega arith) p

-- a fold at whose state no element changes it
pub fold_still :
    {S A : Type 0} (g : S → A → S) (P : A → Type 0) (s : S) → ((x : A) → P x → g s x ≡ s) →
    (n : ℕ) (xs : List A) (d : A) → ((k : ℕ) → k < n → P (get_or xs k d)) → fold g s (take n xs) ≡ s
fold_still g P s still zero xs d h = refl
fold_still g P s still (suc n) [] d h = refl
fold_still g P s still (suc n) (x ∷ xs) d h =
    ap (λ t. fold g t (take n xs)) (still x (h 0 (omega arith)))
    ∙ fold_still g P s still n xs d (λ k i. h (suc k) (omega arith))

-- a fold of steps that stay above a floor stays above it
pub fold_above :
    {A : Type 0} (g : ℕ → A → ℕ) (P : A → Type 0) (m : ℕ) → ((s : ℕ) (x : A) → P x → m ≤ s → m ≤ g s x) →
    (n s : ℕ) (xs : List A) (d : A) → n ≤ length xs → ((k : ℕ) → k < n → P (get_or xs k d)) → m ≤ s → m ≤ fold g s (take n xs)
fold_above g P m step zero s xs d long h low = low
fold_above g P m step (suc n) s [] d long h low = low
fold_above g P m step (suc n) s (x ∷ xs) d long h low =
    fold_above g P m step n (g s x) xs d (omega arith) (λ k i. h (suc k) (omega arith)) (step s x (h 0 (omega arith)) low)

pub get_or_any : {A : Type 0} (xs : List A) (k : ℕ) (d e : A) → k < length xs → get_or xs k d ≡ get_or xs k e
get_or_any [] k d e h = absurd (omega arith)
get_or_any (x ∷ xs) zero d e h = refl
get_or_any (x ∷ xs) (suc k) d e h = get_or_any xs k d e (omega arith)
