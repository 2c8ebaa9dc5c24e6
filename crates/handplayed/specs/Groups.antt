-- The groups of the examples, and the calls that are made in them.
use Rattle.std.specs.Prelude.{ℕ, zero, suc, ◌-◌, false, List, [], ◌∷◌, ◌++◌, replicate, Some, None}
use Rattle.std.proofs.Common.{lit≤}
use Rattle.pace.specs.Meaning.{Meaning}
use Rattle.pace.specs.Halving.{halving}
use Rattle.pace.specs.TwoPhase.{phases}
use Rattle.protocol.specs.declared.call.Call.{Call}
use Rattle.protocol.specs.declared.call.Call.TheVariants.{Tick, Deliver, Lose, Crash, Join, Leave}
use Rattle.protocol.specs.declared.happening.Happening.{Happening}
use Rattle.protocol.specs.declared.happening.HappeningKind.TheVariants.{Sent}
use Rattle.protocol.specs.declared.kind.GroupKind.{GroupKind}
use Rattle.protocol.specs.declared.kind.GroupKind.TheVariants.{Dynamic}
use Rattle.protocol.specs.declared.party.Party.{Party}
use Rattle.protocol.specs.declared.party.Roll.TheVariants.{On}
use Rattle.protocol.specs.declared.party.Stage.TheVariants.{In}
use Rattle.protocol.specs.declared.party.Standing.TheVariants.{Live}
use Rattle.protocol.specs.declared.plan.Plan.{Plan}
use Rattle.protocol.specs.declared.table.Root.{Root}
use Rattle.protocol.specs.declared.table.Root.TheVariants.{Running, Down}
use Rattle.protocol.specs.declared.table.RootEnding.TheVariants.{Crashed, Stopped}
use Rattle.protocol.specs.Party.{beat, noted, owning, legs_of, party}
use Rattle.protocol.specs.Rules.{Rules}
use Rattle.protocol.specs.State.{happening, opening}
use Rattle.handplayed.specs.Columns.{Setting}

-- paces

abbrev pub halves : ℕ → ℕ → Meaning
halves tmin tmax = record { tmin = tmin; tmax = tmax; waits = halving tmin tmax }

abbrev pub two_phases : ℕ → ℕ → Meaning
two_phases tmin tmax = record { tmin = tmin; tmax = tmax; waits = phases 63 tmin tmax }

abbrev pub lists : ℕ → ℕ → List ℕ → Meaning
lists tmin tmax ws = record { tmin = tmin; tmax = tmax; waits = ws }

-- plans, of one party and of two

abbrev pub one : GroupKind → Plan
one kind = record { kind = kind; n = 1; some = lit≤ tt; few = lit≤ tt }

abbrev pub two : GroupKind → Plan
two kind = record { kind = kind; n = 2; some = lit≤ tt; few = lit≤ tt }

-- how a root has ended

abbrev pub root_stopped : ℕ → Root
root_stopped at = Down Stopped at

abbrev pub root_crashed : ℕ → Root
root_crashed at = Down Crashed at

-- a new group, with slots enough for its log
abbrev pub new : Meaning → Plan → Setting
new m plan =
    let rules : Rules = record { meaning = m; plan = plan; room = 100 } in
    record { rules = rules; before = opening rules }

-- a party that is in, and a due beat on its way to it
abbrev pub with_beat : (slots clock : ℕ) → Setting
with_beat slots clock =
    let p : Party = party (noted On false 0) (owning (Live In) clock) (legs_of (Some (beat clock false 0)) None None) in
    record {
      rules = record { meaning = halves 2 4; plan = one Dynamic; room = slots };
      before = record { table = record { clock = clock; root = Running; start = clock - 2; length = 4; logged = 0; parties = replicate 32 p }; log = [] };
    }

-- the same group, beside a log whose records it has counted or not
abbrev pub beside : List Happening → (counted : ℕ) → Setting → Setting
beside log counted g = record g { before = record { table = record g.before.table { logged = counted }; log = log } }

-- a record that tells of that tick
abbrev pub record_at : ℕ → List Happening
record_at t = happening t 0 Sent 0 ∷ []

-- calls

abbrev pub ticks : ℕ → List Call
ticks n = replicate n Tick

abbrev pub times_over : ℕ → List Call → List Call
times_over zero cs = []
times_over (suc n) cs = cs ++ times_over n cs

-- the party crashes at 0 and each beat of the root is delivered
abbrev pub party_crashes : List Call
party_crashes =
    Crash 1 ∷ ticks 11 ++ (Deliver 1 1 ∷ ticks 10) ++ (Deliver 1 1 ∷ ticks 5) ++ (Deliver 1 1 ∷ ticks 2) ++ (Deliver 1 1 ∷ ticks 1)

-- the root crashes at 0
abbrev pub root_crashes : List Call
root_crashes = Crash 0 ∷ ticks 29

-- at 2 the tick has to wait for the beat and for the reply
abbrev pub tick_waits : List Call
tick_waits = ticks 3 ++ (Deliver 1 1 ∷ Tick ∷ Deliver 1 2 ∷ Tick ∷ [])

-- the party joins at 0 and each joining beat is lost
abbrev pub joining_lost : List Call
joining_lost = Join 1 ∷ Lose 1 3 ∷ Tick ∷ times_over 5 (Tick ∷ Tick ∷ Lose 1 3 ∷ []) ++ ticks 2

-- the party joins at 0, is enrolled by its first joining beat and hears the root at 5, where the
-- root crashes
abbrev pub joiner_hears : List Call
joiner_hears =
    Join 1 ∷ Deliver 1 3 ∷ ticks 3 ++ (Deliver 1 3 ∷ ticks 2)
    ++ (Deliver 1 1 ∷ Crash 0 ∷ Deliver 1 2 ∷ Deliver 1 3 ∷ ticks 13)

-- the party joins at 0, hears the root at 6 and leaves, and replies at 9 that it parts; at 2 and
-- twice at 6 the tick has to wait
abbrev pub leaves : List Call
leaves =
    Join 1 ∷ ticks 3 ++ (Deliver 1 3 ∷ ticks 2) ++ (Lose 1 3 ∷ ticks 2)
    ++ (Deliver 1 1 ∷ Tick ∷ Deliver 1 2 ∷ Tick ∷ Leave 1 ∷ Deliver 1 3 ∷ ticks 3)
    ++ (Deliver 1 1 ∷ Deliver 1 2 ∷ ticks 13)

-- the party joins at 1 and calls again at 3; it hears at 4, leaves, and parts at 5, where its
-- joining beat of 3 arrives after the parting one
abbrev pub late_call : List Call
late_call =
    Tick ∷ Join 1 ∷ Deliver 1 3 ∷ ticks 3 ++ (Deliver 1 1 ∷ Deliver 1 2 ∷ Leave 1 ∷ Tick ∷ Deliver 1 1 ∷ Deliver 1 2 ∷ Deliver 1 3 ∷ ticks 7)

-- in the first round with beats party 1 misses one, in the second party 2, and then both miss all
abbrev pub miss_in_turn : List Call
miss_in_turn =
    let both_miss : List Call = Lose 1 1 ∷ Lose 2 1 ∷ [] in
    ticks 11 ++ (Lose 1 1 ∷ Deliver 2 1 ∷ Deliver 2 2 ∷ ticks 10)
    ++ (Deliver 1 1 ∷ Deliver 1 2 ∷ Lose 2 1 ∷ ticks 5) ++ (both_miss ++ ticks 5) ++ (both_miss ++ ticks 2) ++ (both_miss ++ ticks 17)

-- the party misses the beat of 10, hears that of 20, and misses those of 25 and 35
abbrev pub heard_again : List Call
heard_again =
    ticks 11 ++ (Lose 1 1 ∷ ticks 10) ++ (Deliver 1 1 ∷ Deliver 1 2 ∷ ticks 5) ++ (Lose 1 1 ∷ ticks 10) ++ (Lose 1 1 ∷ ticks 5)

-- what is asked for of a closed group of one party
abbrev pub wrong_calls : List Call
wrong_calls =
    Deliver 2 1 ∷ Deliver 0 1 ∷ Lose 2 1 ∷ Crash 2 ∷ Join 2 ∷ Leave 2 ∷ Join 1 ∷ Leave 1
    ∷ (Deliver 1 1 ∷ Deliver 1 4 ∷ Lose 1 0 ∷ Crash 0 ∷ Crash 0 ∷ Crash 1 ∷ Crash 1 ∷ [])
