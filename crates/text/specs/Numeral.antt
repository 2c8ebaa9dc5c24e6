-- The decimal text of a number, by what it reads back as.
use Rattle.std.specs.Prelude.{◌≡◌, ℕ, ◌+◌, ◌-◌, ◌*◌, ◌<◌, true, List, [], ◌∷◌, length, slice_index_or}
use Rattle.std.specs.Str.{all_ascii_digits}

-- the number that digits write, after n
abbrev pub read_on : ℕ → List ℕ → ℕ
read_on n [] = n
read_on n (c ∷ cs) = read_on (10 * n + (c - 48)) cs

-- digits, at least one, with no leading zero
pub record Plain (ds : List ℕ) : Type 0 where
  pub all : all_ascii_digits ds ≡ true
  pub some : 0 < length ds
  pub lead : slice_index_or ds 0 0 ≡ 48 → length ds ≡ 1

-- ds reads back as n, and no other plain text does
pub record Writes (n : ℕ) (ds : List ℕ) : Type 0 where
  pub plain : Plain ds
  pub back : read_on 0 ds ≡ n
  pub only : (es : List ℕ) → Plain es → read_on 0 es ≡ n → es ≡ ds
