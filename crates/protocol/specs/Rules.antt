-- What a run goes by, and no call changes.
use Rattle.std.specs.Prelude.{ℕ, ◌+◌, sum}
use Rattle.pace.specs.Meaning.{Meaning}
use Rattle.protocol.specs.declared.kind.GroupKind.{GroupKind}
use Rattle.protocol.specs.declared.kind.GroupKind.TheVariants.{Closed, Expanding, Dynamic}
use Rattle.protocol.specs.declared.plan.Plan.{Plan}

pub record Rules : Type 0 where
  -- what the pace means
  pub meaning : Meaning
  -- the kind of the group and its number of parties
  pub plan : Plan
  -- how many records its log has room for
  pub room : ℕ

-- the last tick that a clock comes to
abbrev pub clock_limit : ℕ
clock_limit = 4000000000

-- what a party that may have joined waits longer
abbrev pub slack : GroupKind → ℕ → ℕ
slack Closed trip = 0
slack Expanding trip = trip
slack Dynamic trip = trip

-- a beat arrives or is lost at most so many ticks after its sending
abbrev pub trip : Meaning → ℕ
trip m = m.tmin

-- D: the ticks of silence after which a party ends, tmax + S,
-- and one trip more where parties may join
abbrev pub patience : Meaning → GroupKind → ℕ
patience m kind = (m.tmax + sum m.waits) + slack kind (trip m)
