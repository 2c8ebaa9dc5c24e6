-- What holds from now on, up to a tick.
use Rattle.std.specs.Prelude.{ℕ, ◌<◌, ◌≤◌}

-- at each tick from the clock on, before `due`
abbrev pub Until : ℕ → ℕ → (ℕ → Type 0) → Type 0
Until clock due P = (c : ℕ) → clock ≤ c → c < due → P c
