-- One step more of a walk.
use Rattle.std.proofs.Common.{◌≡◌, ℕ, zero, suc, ◌+◌, ◌<◌, List, [], ◌∷◌, length, get_or, set, replicate, sym, refl, ap, ◌∙◌, ap₂, add-zero, add-one, arith}
use Rattle.protocol.specs.Walk.{folds, walks}

module _ {S A : Type 0} (f : ℕ → S → A → A) (g : ℕ → S → A → S) where
  pub folds_suc : (k i : ℕ) (s : S) (xs : List A) (d : A) → i < length xs → folds g k (suc i) s xs ≡ g (k + i) (folds g k i s xs) (get_or xs i d)
  folds_suc k zero s [] d h = absurd (omega arith)
  folds_suc k zero s (x ∷ xs) d h = rw add-zero
  folds_suc k (suc i) s [] d h = absurd (omega arith)
  folds_suc k (suc i) s (x ∷ xs) d h =
      let h' : i < length xs = omega arith in
      let e : k + suc i ≡ suc k + i = omega arith in
      folds_suc (suc k) i (g k s x) xs d h' ∙ ap (λ m. g m (folds g (suc k) i (g k s x) xs) (get_or xs i d)) (sym e)

  pub folds_more : (k i : ℕ) (s : S) (xs : List A) (d : A) → i < length xs → folds g k (i + 1) s xs ≡ g (k + i) (folds g k i s xs) (get_or xs i d)
  folds_more k i s xs d h = rw add-one (folds_suc k i s xs d h)

  pub length_walks : (k i : ℕ) (s : S) (xs : List A) → length (walks f g k i s xs) ≡ length xs
  length_walks k zero s xs = refl
  length_walks k (suc i) s [] = refl
  length_walks k (suc i) s (x ∷ xs) = ap suc (length_walks (suc k) i (g k s x) xs)

  -- what the walk has not come to is as it was
  pub walks_beyond : (k i : ℕ) (s : S) (xs : List A) (d : A) → get_or (walks f g k i s xs) i d ≡ get_or xs i d
  walks_beyond k zero s xs d = refl
  walks_beyond k (suc i) s [] d = refl
  walks_beyond k (suc i) s (x ∷ xs) d = walks_beyond (suc k) i (g k s x) xs d

  walks_suc : (k i : ℕ) (s : S) (xs : List A) (d : A) → i < length xs → set (walks f g k i s xs) i (f (k + i) (folds g k i s xs) (get_or xs i d)) ≡ walks f g k (suc i) s xs
  walks_suc k zero s [] d h = absurd (omega arith)
  walks_suc k zero s (x ∷ xs) d h = rw add-zero
  walks_suc k (suc i) s [] d h = absurd (omega arith)
  walks_suc k (suc i) s (x ∷ xs) d h =
      let h' : i < length xs = omega arith in
      let e : k + suc i ≡ suc k + i = omega arith in
      ap (λ m. f k s x ∷ set (walks f g (suc k) i (g k s x) xs) i (f m (folds g (suc k) i (g k s x) xs) (get_or xs i d))) e
      ∙ ap (λ ys. f k s x ∷ ys) (walks_suc (suc k) i (g k s x) xs d h')

  pub walks_more : (k i : ℕ) (s : S) (xs : List A) (d : A) → i < length xs → set (walks f g k i s xs) i (f (k + i) (folds g k i s xs) (get_or xs i d)) ≡ walks f g k (i + 1) s xs
  walks_more k i s xs d h = rw add-one (walks_suc k i s xs d h)

  -- one turn of a loop that walks: ys is the list so far, t the state so far
  pub turn :
      (k i : ℕ) (s : S) (xs : List A) (d : A) (ys : List A) (t : S) →
      ys ≡ walks f g k i s xs → t ≡ folds g k i s xs → i < length ys →
      (set ys i (f (k + i) t (get_or ys i d)) ≡ walks f g k (i + 1) s xs) × (g (k + i) t (get_or ys i d) ≡ folds g k (i + 1) s xs)
  turn k i s xs d ys t e u h =
      let h' : i < length xs = omega (arith, ap length e ∙ length_walks k i s xs) in
      let r : get_or ys i d ≡ get_or xs i d = ap (λ zs. get_or zs i d) e ∙ walks_beyond k i s xs d in
      let m = walks_more k i s xs d h' in
      let n = folds_more k i s xs d h' in
      (cc, cc)

-- what holds of each element, changed or not, holds after a walk
pub walks_all :
    {S A : Type 0} (f : ℕ → S → A → A) (g : ℕ → S → A → S) (P Q : A → Type 0) →
    ((k : ℕ) (s : S) (x : A) → P x → Q (f k s x)) → ((x : A) → P x → Q x) →
    (k n : ℕ) (s : S) (xs : List A) (d : A) → ((j : ℕ) → P (get_or xs j d)) → (j : ℕ) → Q (get_or (walks f g k n s xs) j d)
walks_all f g P Q step still k zero s xs d h j = still _ (h j)
walks_all f g P Q step still k (suc n) s [] d h j = still _ (h j)
walks_all f g P Q step still k (suc n) s (x ∷ xs) d h zero = step k s x (h zero)
walks_all f g P Q step still k (suc n) s (x ∷ xs) d h (suc j) = walks_all f g P Q step still (suc k) n (g k s x) xs d (λ i. h (suc i)) j

-- a walk that keeps each of the first n elements, and the state at each, changes nothing
pub walks_still :
    {S A : Type 0} (f : ℕ → S → A → A) (g : ℕ → S → A → S) (P : A → Type 0) (s : S) →
    ((k : ℕ) (x : A) → P x → f k s x ≡ x) → ((k : ℕ) (x : A) → P x → g k s x ≡ s) →
    (k n : ℕ) (xs : List A) (d : A) → ((j : ℕ) → j < n → P (get_or xs j d)) → (walks f g k n s xs ≡ xs) × (folds g k n s xs ≡ s)
walks_still f g P s keeps stays k zero xs d h = (refl, refl)
walks_still f g P s keeps stays k (suc n) [] d h = (refl, refl)
walks_still f g P s keeps stays k (suc n) (x ∷ xs) d h =
    let p = h 0 (omega arith) in
    let r = walks_still f g P s keeps stays (suc k) n xs d (λ j i. h (suc j) (omega arith)) in (
      ap₂ (λ y ys. y ∷ ys) (keeps k x p) (ap (λ u. walks f g (suc k) n u xs) (stays k x p) ∙ r.0),
      ap (λ u. folds g (suc k) n u xs) (stays k x p) ∙ r.1,
    )

-- two walks that do the same to each of the first n elements, at any state
pub walks_alike :
    {S A : Type 0} (f f' : ℕ → S → A → A) (g g' : ℕ → S → A → S) (P : A → Type 0) →
    ((k : ℕ) (s : S) (x : A) → P x → f k s x ≡ f' k s x) → ((k : ℕ) (s : S) (x : A) → P x → g k s x ≡ g' k s x) →
    (k n : ℕ) (s : S) (xs : List A) (d : A) → ((j : ℕ) → j < n → P (get_or xs j d)) →
    (walks f g k n s xs ≡ walks f' g' k n s xs) × (folds g k n s xs ≡ folds g' k n s xs)
walks_alike f f' g g' P same told k zero s xs d h = (refl, refl)
walks_alike f f' g g' P same told k (suc n) s [] d h = (refl, refl)
walks_alike f f' g g' P same told k (suc n) s (x ∷ xs) d h =
    let p = h 0 (omega arith) in
    let r = walks_alike f f' g g' P same told (suc k) n (g k s x) xs d (λ j i. h (suc j) (omega arith)) in (
      ap₂ (λ y ys. y ∷ ys) (same k s x p) (r.0 ∙ ap (λ u. walks f' g' (suc k) n u xs) (told k s x p)),
      r.1 ∙ ap (λ u. folds g' (suc k) n u xs) (told k s x p),
    )

pub replicate_all : {A : Type 0} (P : A → Type 0) (n : ℕ) (a d : A) → P a → P d → (k : ℕ) → P (get_or (replicate n a) k d)
replicate_all P zero a d pa pd k = pd
replicate_all P (suc n) a d pa pd zero = pa
replicate_all P (suc n) a d pa pd (suc k) = replicate_all P n a d pa pd k
