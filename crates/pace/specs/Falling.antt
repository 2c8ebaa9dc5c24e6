-- Waits that each come from the one before.
use Rattle.std.specs.Prelude.{ℕ, zero, suc, Bool, true, false, List, [], ◌∷◌, nat_le}

-- w, then `next` of the wait before it, until that would be below tmin; at most `most` waits.
-- The Bool says whether w is such a wait.
abbrev pub falling_waits : (ℕ → ℕ) → Bool → ℕ → ℕ → ℕ → List ℕ
falling_waits next false most tmin w = []
falling_waits next true zero tmin w = []
falling_waits next true (suc most) tmin w =
    w ∷ falling_waits next (nat_le tmin (next w)) most tmin (next w)
