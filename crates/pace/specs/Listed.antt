-- The questions on waits that are listed: the number of the first that is answered no, or 0.
use Rattle.std.specs.Prelude.{ℕ, Bool, if◌then◌else◌, ◌&&◌, List, length, ◌==◌, nat_le, slice_index}
use Rattle.std.specs.List.{list_all}
use Rattle.pace.specs.Meaning.{is_wait_count}

-- whether no wait lies outside the limits
abbrev pub all_within : ℕ → ℕ → List ℕ → Bool
all_within tmin tmax ws = list_all (λ w. nat_le tmin w && nat_le w tmax) ws

-- 2: the number of waits; then 3: is the first wait tmax? then 4: does every wait lie within the
-- limits?
abbrev pub waits_no : ℕ → ℕ → List ℕ → ℕ
waits_no tmin tmax ws =
    if is_wait_count (length ws)
    then (if slice_index ws 0 == tmax then (if all_within tmin tmax ws then 0 else 4) else 3)
    else 2
