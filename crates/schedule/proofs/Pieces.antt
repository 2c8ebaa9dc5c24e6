-- Cutting bytes in two.
use Rattle.std.proofs.Common.{◌≡◌, ℕ, suc, ◌+◌, ◌<◌, ◌≤◌, Bool, true, false, cond, not, ltb, List, [], ◌∷◌, length, take, drop, Some, None, one-add, sym, refl, ap, arith}
use Rattle.std.proofs.lemmas.List.{drop_all, take_all}
use Rattle.std.proofs.lemmas.Bool.Decides.{nat_tests}
use Rattle.std.specs.List.{position_or_len, before_first, after_first}
use Rattle.schedule.specs.Cuts.{with_first_byte, pieces}

module _ (m : ℕ → Bool) where
  -- byte by byte
  pub before_cons : (b : ℕ) (bs : List ℕ) → before_first m (b ∷ bs) ≡ cond (m b) [] (b ∷ before_first m bs)
  before_cons b bs =
      elim (m b) as (λ t. take (cond (not t) (1 + position_or_len m bs) 0) (b ∷ bs) ≡ cond t [] (b ∷ before_first m bs))
      [ true ↦ refl | false ↦ ap (λ n. take n (b ∷ bs)) (one-add (position_or_len m bs)) ]

  pub after_cons : (b : ℕ) (bs : List ℕ) → after_first m (b ∷ bs) ≡ cond (m b) bs (after_first m bs)
  after_cons b bs =
      elim (m b) as (λ t. drop (cond (not t) (1 + position_or_len m bs) 0 + 1) (b ∷ bs) ≡ cond t bs (after_first m bs))
      [ true ↦ refl | false ↦ ap (λ n. drop n (b ∷ bs)) (let e : 1 + position_or_len m bs + 1 ≡ suc (position_or_len m bs + 1) = omega arith in e) ]

  no_place : (n l : ℕ) → cond (ltb n l) (Some n) None ≡ None → l ≤ n
  no_place n l e = grind (arith, nat_tests)

  -- where no byte is a mark, all stand before it
  pub no_mark : (bs : List ℕ) → cond (ltb (position_or_len m bs) (length bs)) (Some (position_or_len m bs)) None ≡ None → (bs ≡ before_first m bs) × ([] ≡ after_first m bs)
  no_mark bs none =
      let le = no_place (position_or_len m bs) (length bs) none in
      (sym (take_all (position_or_len m bs) bs le), sym (drop_all (position_or_len m bs + 1) bs (omega arith)))

  after_le : (bs : List ℕ) → length (after_first m bs) ≤ length bs
  after_le [] = omega arith
  after_le (b ∷ bs) =
      let le = after_le bs in
      rw (after_cons b bs) elim (m b) as (λ t. length (cond t bs (after_first m bs)) ≤ length (b ∷ bs)) [ true ↦ omega arith | false ↦ omega arith ]

  -- a cut leaves fewer bytes
  pub after_lt : (bs : List ℕ) → 0 < length bs → length (after_first m bs) < length bs
  after_lt [] h = absurd (omega arith)
  after_lt (b ∷ bs) h =
      let le = after_le bs in
      rw (after_cons b bs) elim (m b) as (λ t. length (cond t bs (after_first m bs)) < length (b ∷ bs)) [ true ↦ omega arith | false ↦ omega arith ]

  -- the first piece ends at the first mark
  first : (b : ℕ) (bs : List ℕ) → pieces m (b ∷ bs) ≡ before_first m (b ∷ bs) ∷ pieces m (after_first m (b ∷ bs))
  first b [] = rw (before_cons b [], after_cons b []) elim (m b) as (λ t. cond t ([] ∷ []) (with_first_byte b []) ≡ cond t [] (b ∷ []) ∷ pieces m (cond t [] [])) [ true ↦ refl | false ↦ refl ]
  first b (b' ∷ bs) =
      let cs = b' ∷ bs in
      rw (before_cons b cs, after_cons b cs) elim (m b) as (λ t. cond t ([] ∷ pieces m cs) (with_first_byte b (pieces m cs)) ≡ cond t [] (b ∷ before_first m cs) ∷ pieces m (cond t cs (after_first m cs)))
      [ true ↦ refl | false ↦ ap (with_first_byte b) (first b' bs) ]

  pub first_piece : (bs : List ℕ) → 0 < length bs → pieces m bs ≡ before_first m bs ∷ pieces m (after_first m bs)
  first_piece [] h = absurd (omega arith)
  first_piece (b ∷ bs) h = first b bs
