-- The question on a pair of limits: 0 where it is answered yes, or its number.
use Rattle.std.specs.Prelude.{ℕ, if◌then◌else◌, ◌&&◌, nat_le}

-- 1: are the limits in bounds?
abbrev pub limits_no : ℕ → ℕ → ℕ
limits_no tmin tmax =
    if nat_le 1 tmin && nat_le tmin tmax && nat_le tmax 1000000 then 0 else 1
