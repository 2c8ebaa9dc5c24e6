-- The pace by halving, and what is said of the number of its waits.
use Rattle.std.specs.Prelude.{◌≡◌, ℕ, ◌+◌, ◌-◌, ◌*◌, ◌/◌, ◌^◌, ◌≤◌, true, ◌⊎◌, List}
use Rattle.std.specs.Int.Count.{count_leading_zeros}
use Rattle.pace.specs.Falling.{falling_waits}

-- the first wait is tmax, each later one half of its forerunner, rounded down, and none below tmin
unfoldable pub halving : ℕ → ℕ → List ℕ
halving tmin tmax = falling_waits (λ w. w / 2) true 64 tmin tmax

-- k is the largest number with tmin * 2 ^ k at most tmax
pub record Largest (tmin tmax k : ℕ) : Type 0 where
  pub fits : tmin * 2 ^ k ≤ tmax
  pub most : (j : ℕ) → tmin * 2 ^ j ≤ tmax → j ≤ k

-- the length of a number in bits
abbrev pub bit_length : ℕ → ℕ
bit_length x = 32 - count_leading_zeros 32 x

-- tmax is k or k + 1 bits longer than tmin
abbrev pub LengthsApart : ℕ → ℕ → ℕ → Type 0
LengthsApart tmin tmax k =
    (bit_length tmin + k ≡ bit_length tmax) ⊎ (bit_length tmin + k + 1 ≡ bit_length tmax)
