-- The last record's time.
use Rattle.std.proofs.Common.{◌≡◌, ℕ, ◌+◌, ◌-◌, ◌≤◌, List, [], ◌∷◌, ◌++◌, map, length, get_or, sym, ap, ◌∙◌, subst, not-suc-le-zero, arith}
use Rattle.std.specs.List.Sorted.{IsNonDecreasingBy}
use Rattle.std.proofs.lemmas.List.Sorted.{IsNonDecreasingBy-push}
use Rattle.std.proofs.lemmas.List.{length_push, get_or_push, get_or-map}
use Rattle.slots.specs.Slots.{last_time, LastIsLatest}

module _ {X : Type 0} (time : X → ℕ) where
  pub last_of_appended : (xs : List X) (x : X) → last_time time (xs ++ x ∷ []) ≡ time x
  last_of_appended xs x =
      let n = length_push xs x in
      ap (λ (m : ℕ). get_or (map time (xs ++ x ∷ [])) (m - 1) 0) n
      ∙ get_or-map time (xs ++ x ∷ []) (length xs + 1 - 1) x 0 (omega arith)
      ∙ ap time (get_or_push xs x x (length xs + 1 - 1) (omega arith))

  -- at a record d to read with; a list that has a place has one
  latest_with : (xs : List X) (d : X) → LastIsLatest time xs
  latest_with xs d r k h =
      let a = get_or-map time xs k d 0 h in
      let b = get_or-map time xs (length xs - 1) d 0 (omega arith) in
      let c = r k (length xs - 1) d (omega arith) (omega arith) in
      omega arith

  pub last_is_latest : (xs : List X) → LastIsLatest time xs
  last_is_latest [] r k h = absurd (not-suc-le-zero h)
  last_is_latest (x ∷ ys) r k h = latest_with (x ∷ ys) x r k h

  -- a record that is not earlier than the last keeps the order
  pub rises_appended : (xs : List X) (x : X) (ys : List X) → last_time time xs ≤ time x → ys ≡ xs ++ x ∷ [] → IsNonDecreasingBy time xs → IsNonDecreasingBy time ys
  rises_appended xs x ys le e r =
      let P : List X → Type 0 = λ l. IsNonDecreasingBy time l in
      subst P (sym e) (IsNonDecreasingBy-push time xs x r (λ d pos. omega (arith, get_or-map time xs (length xs - 1) d 0 (omega arith))))
