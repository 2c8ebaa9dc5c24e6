-- What stands at a place of a list.
use Rattle.std.proofs.Common.{◌≡◌, ℕ, ◌<◌, ◌≤◌, Bool, true, false, cond, List, [], ◌∷◌, map, length, get_or, Option, Some, None, sym, refl, ap, subst, not-suc-le-zero, arith, le-ltb, lt-ltb, le-leb}
use Rattle.std.specs.Prelude.{nat_le, nat_lt}
use Rattle.std.specs.List.{AllWithin, HoldsAt, position, position_or_len}
use Rattle.std.specs.Option.{MatchOption}
use Rattle.std.proofs.lemmas.Bool.Decides.{nat_tests}
use Rattle.std.proofs.lemmas.List.{get_or-map}
use Rattle.std.proofs.lemmas.List.Sums.{position_or_len_is}
use Rattle.slots.specs.Slots.{First}

module _ {X : Type 0} (time : X → ℕ) (t : ℕ) (xs : List X) where
  -- what holds of the record's time there, whichever record is read past the end
  time_there : (P : ℕ → Type 0) (ys : List X) (k : ℕ) → k < length ys → HoldsAt (λ x. P (time x)) ys k → P (get_or (map time ys) k 0)
  time_there P [] k h p = absurd (not-suc-le-zero h)
  time_there P (y ∷ ys) k h p = subst P (sym (get_or-map time (y ∷ ys) k y 0 h)) (p y)

  pub first_found : (r : Option ℕ) → MatchOption r (AllWithin (λ x. time x < t) xs 0 (length xs)) (λ p. (p < length xs) × HoldsAt (λ x. t ≤ time x) xs p × AllWithin (λ x. time x < t) xs 0 p) → First time t xs r
  first_found None before = λ k h. time_there (λ n. n < t) xs k h (λ d. before k d (omega arith) h)
  first_found (Some p) (within, at, before) = (
    within,
    time_there (λ n. t ≤ n) xs p within at,
    λ k h. time_there (λ n. n < t) xs k (omega arith) (λ d. before k d (omega arith) h),
  )

-- what a search answers that ends at place i of n
none_at : (i n : ℕ) → i ≡ n → None ≡ cond (nat_lt i n) (Some i) None
none_at i n e = rw (le-ltb i n (omega arith)) refl

some_at : (i n p : ℕ) → i ≡ p → p < n → Some p ≡ cond (nat_lt i n) (Some i) None
some_at i n p e h = rw (lt-ltb i n (omega arith)) (ap Some (sym e))

module _ {X : Type 0} (time : X → ℕ) (t : ℕ) where
  late : X → Bool
  late x = nat_le t (time x)

  early_there : (xs : List X) (k : ℕ) (d : X) → k < length xs → get_or (map time xs) k 0 < t → late (get_or xs k d) ≡ false
  unfolding late
  early_there xs k d h l = let e = get_or-map time xs k d 0 h in grind (arith, nat_tests)

  late_there : (xs : List X) (k : ℕ) (d : X) → k < length xs → t ≤ get_or (map time xs) k 0 → late (get_or xs k d) ≡ true
  unfolding late
  late_there xs k d h l = let e = get_or-map time xs k d 0 h in le-leb t (time (get_or xs k d)) (omega arith)

  -- the first place is the one that a search ends at
  pub first_is : (xs : List X) (r : Option ℕ) → First time t xs r → r ≡ position (λ x. nat_le t (time x)) xs
  unfolding late
  first_is [] None before = refl
  first_is [] (Some p) found = absurd (not-suc-le-zero found.0)
  first_is (x ∷ xs) None before =
      none_at (position_or_len late (x ∷ xs)) (length (x ∷ xs))
      (position_or_len_is late (x ∷ xs) (length (x ∷ xs)) x (omega arith) (λ k h. early_there (x ∷ xs) k x h (before k h)) (λ h. absurd (omega arith)))
  first_is (x ∷ xs) (Some p) (within, at, before) =
      some_at (position_or_len late (x ∷ xs)) (length (x ∷ xs)) p
      (position_or_len_is late (x ∷ xs) p x (omega arith) (λ k h. early_there (x ∷ xs) k x (omega arith) (before k h)) (λ h. late_there (x ∷ xs) p x within at))
      within
