-- What a pace means, and what every pace has to show of it.
use Rattle.std.specs.Prelude.{◌≡◌, ℕ, ◌<◌, ◌≤◌, Bool, ◌&&◌, List, length, nat_le, slice_index, slice_index_or}
use Rattle.pace.specs.declared.limits.Limits.{Limits}

-- the limits and the waits of a pace, in ticks
pub record Meaning : Type 0 where
  pub tmin : ℕ
  pub tmax : ℕ
  pub waits : List ℕ

-- the law of paces
pub record Lawful (m : Meaning) : Type 0 where
  pub low : 1 ≤ m.tmin
  pub ordered : m.tmin ≤ m.tmax
  pub high : m.tmax ≤ 1000000
  pub some : 1 ≤ length m.waits
  pub few : length m.waits ≤ 64
  pub first : slice_index_or m.waits 0 0 ≡ m.tmax
  pub floor : (k : ℕ) → k < length m.waits → m.tmin ≤ slice_index m.waits k
  pub roof : (k : ℕ) → k < length m.waits → slice_index m.waits k ≤ m.tmax

-- these waits between these limits
abbrev pub meaning_between : Limits → List ℕ → Meaning
meaning_between l ws = record { tmin = l.tmin; tmax = l.tmax; waits = ws }

-- whether a pace may have so many waits
abbrev pub is_wait_count : ℕ → Bool
is_wait_count m = nat_le 1 m && nat_le m 64
