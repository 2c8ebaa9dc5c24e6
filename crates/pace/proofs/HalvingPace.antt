-- The list of halvings by its places, and its length by the limits' lengths in bits.
use Rattle.std.specs.Prelude.{◌≡◌, ℕ, zero, suc, ◌+◌, ◌-◌, ◌*◌, ◌/◌, ◌^◌, ◌<◌, ◌≤◌, true, List, [], ◌∷◌, length, Some, nat_le, slice_index, refl}
use Rattle.std.proofs.Common.{sym, ap, ◌∙◌, inl, inr, ⊎_elim, arith, div-one, le-div_iff_mul-le, div-lt_iff_lt-mul, mul-le-mul_right, one-add, pow_pos, pow_mono, pow-add, shr-shr}
use Rattle.std.proofs.lemmas.Nat.{shr_le, leading_top, leading_le}
use Rattle.std.specs.Int.Count.{count_leading_zeros}
use Rattle.std.specs.List.{slice_get}
use Rattle.std.proofs.lemmas.Bool.{le-leb, lt-leb, cases_lt}
use Rattle.std.proofs.lemmas.Option.{slice_get-get_or}
use Rattle.pace.specs.declared.limits.Limits.{Limits}
use Rattle.pace.specs.Falling.{falling_waits}
use Rattle.pace.specs.Halving.{halving, Largest, LengthsApart}

-- the wait at place m is the last that is at least tmin
record Last (tmin w m : ℕ) : Type 0 where
  reached : tmin ≤ w / 2 ^ m
  beyond : w / 2 ^ suc m < tmin

half_first : (w m : ℕ) → w / 2 / 2 ^ m ≡ w / 2 ^ suc m
half_first w m = shr-shr w 1 m ∙ ap (λ x. w / 2 ^ x) (one-add m)

-- later waits are no larger
shr_anti : (w k m : ℕ) → k ≤ m → w / 2 ^ m ≤ w / 2 ^ k
shr_anti w k m h =
    let e : k + (m - k) ≡ m = omega arith in
    let s : w / 2 ^ k / 2 ^ (m - k) ≡ w / 2 ^ m = shr-shr w k (m - k) ∙ ap (λ x. w / 2 ^ x) e in
    omega (arith, shr_le (w / 2 ^ k) (m - k))

-- what a list of halvings is, by its places
record Shape (ws : List ℕ) (w m : ℕ) : Type 0 where
  long : length ws ≡ suc m
  at : (k : ℕ) → k ≤ m → slice_index ws k ≡ w / 2 ^ k

shape_one : (w : ℕ) → Shape (w ∷ []) w 0
shape_one w = record { long = refl; at = at }
  where
    at : (k : ℕ) → k ≤ 0 → slice_index (w ∷ []) k ≡ w / 2 ^ k
    at zero h = sym (div-one w)
    at (suc k) h = absurd (omega arith)

shape_more : (ws : List ℕ) (w m : ℕ) → Shape ws (w / 2) m → Shape (w ∷ ws) w (suc m)
shape_more ws w m s = record { long = ap suc s.long; at = at }
  where
    at : (k : ℕ) → k ≤ suc m → slice_index (w ∷ ws) k ≡ w / 2 ^ k
    at zero h = sym (div-one w)
    at (suc k) h = s.at k (omega arith) ∙ half_first w k

shape : (most tmin w m : ℕ) → m < most → Last tmin w m → Shape (falling_waits (λ x. x / 2) true most tmin w) w m
shape zero tmin w m b last = absurd (omega arith)
shape (suc most) tmin w zero b last = rw (lt-leb tmin (w / 2) last.beyond) (shape_one w)
shape (suc most) tmin w (suc m) b last =
    let h : w / 2 / 2 ^ m ≡ w / 2 ^ suc m = half_first w m in
    let h' : w / 2 / 2 ^ suc m ≡ w / 2 ^ suc (suc m) = half_first w (suc m) in
    let t : nat_le tmin (w / 2) ≡ true = le-leb tmin (w / 2) (omega (arith, last.reached, shr_le (w / 2) m)) in
    let ih = shape most tmin (w / 2) m (omega arith) (record { reached = omega (arith, last.reached); beyond = omega (arith, last.beyond) }) in
    rw t (shape_more (falling_waits (λ x. x / 2) true most tmin (w / 2)) w m ih)

-- ---- the last place, by the limits' lengths in bits

-- a has its highest bit at j, and b at j + d
record Tops (a b d : ℕ) : Type 0 where
  j : ℕ
  a_low : 2 ^ j ≤ a
  a_high : a < 2 ^ suc j
  b_low : 2 ^ (j + d) ≤ b
  b_high : b < 2 ^ suc (j + d)

-- b halved d times reaches a, and once more does not
reach : (a b d : ℕ) → Tops a b d → a ≤ b / 2 ^ d → Last a b d
reach a b d t h =
    let e : 2 ^ t.j * 2 ^ suc d ≡ 2 ^ suc (t.j + d) = sym (pow-add 2 t.j (suc d)) ∙ ap (λ x. 2 ^ x) (omega arith) in
    let le : 2 ^ t.j * 2 ^ suc d ≤ a * 2 ^ suc d = mul-le-mul_right (2 ^ suc d) t.a_low in
    let lt : b < a * 2 ^ suc d = omega (arith, t.b_high) in
    record { reached = h; beyond = (div-lt_iff_lt-mul (pow_pos (suc d))).1 lt }

-- b halved d times does not reach a, and once fewer does
short : (a b m : ℕ) → Tops a b (suc m) → b / 2 ^ suc m < a → Last a b m
short a b m t h =
    let e : 2 ^ suc t.j * 2 ^ m ≡ 2 ^ (t.j + suc m) = sym (pow-add 2 (suc t.j) m) ∙ ap (λ x. 2 ^ x) (omega arith) in
    let le : a * 2 ^ m ≤ 2 ^ suc t.j * 2 ^ m = mul-le-mul_right (2 ^ m) (omega (arith, t.a_high)) in
    let low : a * 2 ^ m ≤ b = omega (arith, t.b_low) in
    record { reached = (le-div_iff_mul-le (pow_pos m)).1 low; beyond = h }

-- how much longer tmax is than tmin, in bits
abbrev pub apart : ℕ → ℕ → ℕ
apart a b = count_leading_zeros 32 a - count_leading_zeros 32 b

module _ (a b : ℕ) (low : 1 ≤ a) (ordered : a ≤ b) (high : b < 2 ^ 32) where
  tops : (count_leading_zeros 32 b ≤ count_leading_zeros 32 a) × Tops a b (apart a b)
  tops = go (leading_top 32 a low (omega arith)) (leading_top 32 b (omega arith) high)
    where
      go : ((i : ℕ) × (count_leading_zeros 32 a + suc i ≡ 32) × (2 ^ i ≤ a) × (a < 2 ^ suc i)) → ((j : ℕ) × (count_leading_zeros 32 b + suc j ≡ 32) × (2 ^ j ≤ b) × (b < 2 ^ suc j))
          → (count_leading_zeros 32 b ≤ count_leading_zeros 32 a) × Tops a b (apart a b)
      go (i, p, al, ah) (j, q, bl, bh) =
          let not_less : (j < i → ⊥) = λ h. omega (arith, pow_mono {i = suc j} {j = i} h) in
          let le : i ≤ j = ⊎_elim (λ h. absurd (not_less h)) (λ h. h) (cases_lt j i) in
          let e : j ≡ i + apart a b = omega arith in
          (omega arith, record { j = i; a_low = al; a_high = ah; b_low = rw e at bl; b_high = rw e at bh })

  pub bits_ordered : count_leading_zeros 32 b ≤ count_leading_zeros 32 a
  bits_ordered = tops.0

  bits_short : (d : ℕ) → d ≡ apart a b → b / 2 ^ d < a → (m : ℕ) × (suc m ≡ d) × Last a b m
  bits_short zero e h = absurd (omega (arith, div-one b))
  bits_short (suc m) e h = (m, refl, short a b m (rw (← e) at tops.1) h)

-- ---- what follows of the waits

-- m is the last place; tmax is m or m + 1 bits longer than tmin
record Found (l : Limits) (m : ℕ) : Type 0 where
  last : Last l.tmin l.tmax m
  lengths : LengthsApart l.tmin l.tmax m

module _ (l : Limits) where
  found_reach : l.tmin ≤ l.tmax / 2 ^ apart l.tmin l.tmax → Found l (apart l.tmin l.tmax)
  found_reach h =
      let t = tops l.tmin l.tmax l.low l.ordered (omega (arith, l.high)) in
      record { last = reach l.tmin l.tmax (apart l.tmin l.tmax) t.1 h; lengths = inl (omega (arith, t.0, leading_le 32 l.tmin)) }

  found_short : l.tmax / 2 ^ apart l.tmin l.tmax < l.tmin → (m : ℕ) × (suc m ≡ apart l.tmin l.tmax) × Found l m
  found_short h =
      let s = bits_short l.tmin l.tmax l.low l.ordered (omega (arith, l.high)) (apart l.tmin l.tmax) refl h in
      (s.0, s.1, record { last = s.2; lengths = inr (omega (arith, s.1, leading_le 32 l.tmin)) })

  -- there is a last place
  found : (m : ℕ) × Found l m
  found = ⊎_elim (λ h. let s = found_short h in (s.0, s.2)) (λ h. (apart l.tmin l.tmax, found_reach h)) (cases_lt (l.tmax / 2 ^ apart l.tmin l.tmax) l.tmin)

  last_small : (m : ℕ) → Last l.tmin l.tmax m → m < 20
  last_small m last =
      let one : 1 ≤ l.tmax / 2 ^ m = omega (arith, last.reached, l.low) in
      let le = (le-div_iff_mul-le (pow_pos m)).0 one in
      ⊎_elim (λ h. h) (λ h. absurd (omega (arith, le, pow_mono {i = 20} {j = m} h, l.high))) (cases_lt m 20)

  shape_of : (m : ℕ) → Last l.tmin l.tmax m → Shape (halving l.tmin l.tmax) l.tmax m
  unfolding halving
  shape_of m last = shape 64 l.tmin l.tmax m (omega (arith, last_small m last)) last

  -- halving never gives more than 20 waits
  pub halving_few : length (halving l.tmin l.tmax) ≤ 20
  halving_few = let s = found in omega (arith, (shape_of s.0 s.1.last).long, last_small s.0 s.1.last)

  pub nth_halving : (k : ℕ) → k < length (halving l.tmin l.tmax) → slice_get (halving l.tmin l.tmax) k ≡ Some (l.tmax / 2 ^ k)
  nth_halving k h =
      let t = shape_of found.0 found.1.last in
      slice_get-get_or (halving l.tmin l.tmax) k 0 h ∙ ap Some (t.at k (omega (arith, t.long)))

-- at the last place tmin is doubled as often as tmax has room for
largest : (tmin tmax m : ℕ) → Last tmin tmax m → Largest tmin tmax m
largest tmin tmax m last = record {
  fits = (le-div_iff_mul-le (pow_pos m)).0 last.reached;
  most = λ j le. let r : tmin ≤ tmax / 2 ^ j = (le-div_iff_mul-le (pow_pos j)).1 le in ⊎_elim (λ lt. absurd (omega (arith, r, last.beyond, shr_anti tmax (suc m) j lt))) (λ x. x) (cases_lt m j);
}

-- what is told of a number of waits
pub record Told (l : Limits) (r : ℕ) : Type 0 where
  pub count : r ≡ length (halving l.tmin l.tmax)
  pub largest : Largest l.tmin l.tmax (r - 1)
  pub apart : LengthsApart l.tmin l.tmax (r - 1)

told : (l : Limits) (m r : ℕ) → r ≡ suc m → Found l m → Told l r
told l m r e f =
    let p : m ≡ r - 1 = omega arith in
    record {
      count = e ∙ sym (shape_of l m f.last).long;
      largest = rw p at (largest l.tmin l.tmax m f.last);
      apart = rw p at f.lengths;
    }

module _ (l : Limits) (a b : ℕ) (at_a : a ≡ l.tmin) (at_b : b ≡ l.tmax) where
  pub told_reach : a ≤ b / 2 ^ apart a b → Told l (apart a b + 1)
  told_reach h = rw (at_a, at_b) (told l (apart l.tmin l.tmax) (apart l.tmin l.tmax + 1) (omega arith) (found_reach l (rw (at_a, at_b) at h)))

  pub told_short : b / 2 ^ apart a b < a → Told l (apart a b)
  told_short h =
      let s = found_short l (rw (at_a, at_b) at h) in
      rw (at_a, at_b) (told l s.0 (apart l.tmin l.tmax) (omega (arith, s.1)) s.2)
