-- A patience that does for a tick.
use Rattle.std.specs.Prelude.{◌≡◌, ℕ, ◌-◌, ◌<◌, ◌≤◌, Bool, ◌&&◌, nat_le, slice_index_or}
use Rattle.pace.specs.Meaning.{Meaning}
use Rattle.protocol.specs.declared.party.Party.{Party}
use Rattle.protocol.specs.declared.plan.Plan.{Plan}
use Rattle.protocol.specs.declared.table.Table.{Table}
use Rattle.protocol.specs.Rules.{patience}
use Rattle.protocol.specs.Party.{live, nobody}

-- a live party has heard nothing for so many ticks
abbrev pub silent_for : ℕ → ℕ → Party → Bool
silent_for d clock p = live p.own.standing && nat_le d (clock - p.own.since)

-- at the clock, d ends the same parties as D does, and it never exceeds D
pub record Suffices (m : Meaning) (plan : Plan) (t : Table) (d : ℕ) : Type 0 where
  pub some : 0 < d
  pub most : d ≤ patience m plan.kind
  pub alike : (k : ℕ) → k < plan.n →
      silent_for d t.clock (slice_index_or t.parties k nobody)
      ≡ silent_for (patience m plan.kind) t.clock (slice_index_or t.parties k nobody)
