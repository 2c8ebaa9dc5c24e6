-- Rounds that end with nobody on the roll, and in which nothing is due of a party.
use Rattle.std.specs.Prelude.{◌≡◌, ℕ, ◌+◌, ◌-◌, ◌*◌, ◌<◌, ◌≤◌, true, false, [], replicate, slice_index_or}
use Rattle.pace.specs.Meaning.{Meaning}
use Rattle.protocol.specs.declared.table.Table.{Table}
use Rattle.protocol.specs.declared.plan.Plan.{Plan}
use Rattle.protocol.specs.declared.call.Call.TheVariants.{Tick}
use Rattle.protocol.specs.Rules.{Rules, patience, clock_limit}
use Rattle.protocol.specs.Party.{nobody, on_roll}
use Rattle.protocol.specs.State.{State}
use Rattle.protocol.specs.calls.Tick.{round_ends}
use Rattle.protocol.specs.Runs.{number}
use Rattle.protocol.specs.Making.{making, Same}
use Rattle.protocol.specs.Quiet.{Rests}

-- the round ends at the clock, nobody is on the roll, and from now on until b each party rests
pub record Idle (m : Meaning) (plan : Plan) (t : Table) (b : ℕ) : Type 0 where
  pub ends : round_ends t ≡ true
  pub off : (k : ℕ) → k < plan.n → on_roll (slice_index_or t.parties k nobody).note.roll ≡ false
  pub rest : (c : ℕ) → t.clock ≤ c → c < b → (k : ℕ) → k < plan.n →
      Rests (patience m plan.kind) m.tmin c (slice_index_or t.parties k nobody)

-- the table, and the table with its log, at the end of a round of length w, which is tick c
abbrev pub at_round_end : ℕ → ℕ → Table → Table
at_round_end w c t = record t { clock = c; start = c - w; length = w }

abbrev pub state_at_round_end : ℕ → ℕ → State → State
state_at_round_end w c s = record { table = at_round_end w c s.table; log = s.log }

-- ticks over so many idle rounds, of a lawful pace, of which the first is not refused: none is, and
-- they only move the round, which has length tmax then
abbrev pub IdleRoundsOnlyMoveTheRound : Rules → State → ℕ → Type 0
IdleRoundsOnlyMoveTheRound rules s rounds =
    let tmax = rules.meaning.tmax in
    let end = s.table.clock + rounds * tmax in
    0 < rounds → end ≤ clock_limit → Idle rules.meaning rules.plan s.table end →
    number rules Tick s ≡ 0 →
    Same (making rules (replicate (rounds * tmax) Tick) s)
    (record { state = state_at_round_end tmax end s; calls = []; number = 0 })
