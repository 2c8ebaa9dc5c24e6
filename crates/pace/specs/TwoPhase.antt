-- The pace in two phases.
use Rattle.std.specs.Prelude.{ℕ, List, ◌∷◌, replicate}

-- tmax, then tmin n times
abbrev pub phases : ℕ → ℕ → ℕ → List ℕ
phases n tmin tmax = tmax ∷ replicate n tmin
