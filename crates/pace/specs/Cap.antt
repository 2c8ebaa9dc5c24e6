-- A pace under a cap, and the question on the cap.
use Rattle.std.specs.Prelude.{ℕ, if◌then◌else◌, take}
use Rattle.pace.specs.Meaning.{Meaning, is_wait_count}

-- 2: the number of waits alone
abbrev pub count_no : ℕ → ℕ
count_no m = if is_wait_count m then 0 else 2

-- a pace's waits, of which no more than m are left
abbrev pub capped_meaning : ℕ → Meaning → Meaning
capped_meaning m p = record { tmin = p.tmin; tmax = p.tmax; waits = take m p.waits }
