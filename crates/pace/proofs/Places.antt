-- Waits by their places: what an allowed list goes on with, and what the front of a list tells.
use Rattle.std.proofs.Common.{◌≡◌, ℕ, zero, suc, ◌+◌, ◌<◌, ◌≤◌, false, ◌⊎◌, inl, inr, List, [], ◌∷◌, length, drop, take, None, slice_index, refl, ◌∙◌, arith}
use Rattle.std.specs.List.{slice_get}
use Rattle.std.proofs.lemmas.List.{at_drop_more, length-take}
use Rattle.std.proofs.lemmas.Bool.{le-leb, lt-leb}
use Rattle.std.proofs.lemmas.Bool.Decides.{nat_tests}
use Rattle.std.proofs.lemmas.Option.{slice_get_past}
use Rattle.pace.specs.Listed.{all_within}

module _ (tmin tmax : ℕ) where
  pub within_more : (ws : List ℕ) (k : ℕ) → k < length ws → tmin ≤ slice_index ws k → slice_index ws k ≤ tmax → all_within tmin tmax (drop k ws) ≡ all_within tmin tmax (drop (k + 1) ws)
  within_more ws k h a b = at_drop_more (all_within tmin tmax) ws k 0 h ∙ rw (le-leb tmin (slice_index ws k) a, le-leb (slice_index ws k) tmax b)

  pub within_not : (ws : List ℕ) (k : ℕ) → k < length ws → (slice_index ws k < tmin) ⊎ (tmax < slice_index ws k) → all_within tmin tmax (drop k ws) ≡ false
  within_not ws k h (inl a) = at_drop_more (all_within tmin tmax) ws k 0 h ∙ rw (lt-leb tmin (slice_index ws k) a)
  within_not ws k h (inr b) = at_drop_more (all_within tmin tmax) ws k 0 h ∙ grind (arith, nat_tests)

pub nth_take : (ws : List ℕ) (m k : ℕ) → k < m → slice_get (take m ws) k ≡ slice_get ws k
nth_take ws zero k h = absurd (omega arith)
nth_take [] (suc m) k h = refl
nth_take (w ∷ ws) (suc m) zero h = refl
nth_take (w ∷ ws) (suc m) (suc k) h = nth_take ws m k (omega arith)

pub nth_take_past : (ws : List ℕ) (m k : ℕ) → m ≤ k → slice_get (take m ws) k ≡ None
nth_take_past ws m k h = let n = length-take m ws in slice_get_past (take m ws) k (omega arith)
