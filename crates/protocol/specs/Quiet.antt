-- A tick at which nothing is due.
use Rattle.std.specs.Prelude.{◌≡◌, ℕ, ◌-◌, ◌<◌, ◌≤◌, Bool, true, false, not, ◌&&◌, nat_lt, slice_index_or}
use Rattle.pace.specs.Meaning.{Meaning}
use Rattle.protocol.specs.declared.party.Party.{Party}
use Rattle.protocol.specs.declared.party.Standing.{Standing}
use Rattle.protocol.specs.declared.party.Standing.TheVariants.{Outside, Live, Ended}
use Rattle.protocol.specs.declared.table.Table.{Table}
use Rattle.protocol.specs.declared.plan.Plan.{Plan}
use Rattle.protocol.specs.Rules.{patience, clock_limit}
use Rattle.protocol.specs.calls.Tick.{due, calls_in, round_ends}
use Rattle.protocol.specs.Party.{nobody}
use Rattle.protocol.specs.State.{State}

-- the table, and the table with its log, at another clock
abbrev pub with_clock : ℕ → Table → Table
with_clock c t = record t { clock = c }

abbrev pub at_clock : ℕ → State → State
at_clock c s = record { table = with_clock c s.table; log = s.log }

-- a timer does nothing after so many ticks of silence: only a live party has one,
-- its patience lasts, and it does not call again
abbrev pub timer_rests : Standing → ℕ → ℕ → ℕ → Bool
timer_rests Outside patience tmin silent = true
timer_rests (Live g) patience tmin silent = nat_lt silent patience && not (calls_in g tmin silent)
timer_rests (Ended how at g) patience tmin silent = true

-- no beat of the party has its last tick at c, and its timer does nothing then
pub record Rests (patience tmin c : ℕ) (p : Party) : Type 0 where
  pub legs : due c p ≡ false
  pub timer : timer_rests p.own.standing patience tmin (c - p.own.since) ≡ true

-- nothing is due at c: no round ends, and each party of the plan rests
pub record Quiet (m : Meaning) (plan : Plan) (t : Table) (c : ℕ) : Type 0 where
  pub root : round_ends (with_clock c t) ≡ false
  pub parties :
      (k : ℕ) → k < plan.n →
      Rests (patience m plan.kind) m.tmin c (slice_index_or t.parties k nobody)

-- nothing is due from the clock up to b, which the clock may come to
pub record QuietUntil (m : Meaning) (plan : Plan) (t : Table) (b : ℕ) : Type 0 where
  pub limit : t.clock < b → b ≤ clock_limit
  pub quiet : (c : ℕ) → t.clock ≤ c → c < b → Quiet m plan t c
