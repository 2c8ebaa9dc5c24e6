-- A tick closes: what is asked, what it does, and the legs on which it sends.
use Rattle.std.specs.Prelude.{take, ℕ, ◌+◌, min, ◌-◌, ◌%◌, Bool, true, false, cond, ◌&&◌, ◌||◌, Some, None, Option, ◌==◌, nat_le, nat_lt, List, length, ◌*◌, not, ◌≡◌, ◌<◌, ◌≤◌}
use Rattle.protocol.specs.declared.party.Party.{Party}
use Rattle.protocol.specs.declared.party.Note.{Note}
use Rattle.protocol.specs.declared.party.Beat.{Beat}
use Rattle.protocol.specs.declared.party.Stage.{Stage}
use Rattle.protocol.specs.declared.party.Stage.TheVariants.{Joining, In, Leaving}
use Rattle.protocol.specs.declared.party.Ending.{Ending}
use Rattle.protocol.specs.declared.party.Ending.TheVariants.{Crashed, Stopped, Left}
use Rattle.protocol.specs.declared.party.Standing.{Standing}
use Rattle.protocol.specs.declared.party.Standing.TheVariants.{Outside, Live, Ended}
use Rattle.protocol.specs.declared.party.Roll.{Roll}
use Rattle.protocol.specs.declared.party.Roll.TheVariants.{Off, On, Struck}
use Rattle.protocol.specs.declared.table.Root.TheVariants.{Down}
use Rattle.protocol.specs.declared.table.RootEnding.TheVariants.{Stopped as RootStopped}
use Rattle.protocol.specs.declared.happening.HappeningKind.{HappeningKind}
use Rattle.protocol.specs.declared.happening.HappeningKind.TheVariants.{Sent, Crashed as HasCrashed, Stopped as HasStopped, Left as HasLeft}
use Rattle.protocol.specs.declared.happening.Happening.{Happening}
use Rattle.protocol.specs.declared.table.Table.{Table}
use Rattle.std.specs.List.{slice_get, list_any, fold}
use Rattle.std.specs.Option.{unwrap_or}
use Rattle.protocol.specs.Walk.{folds, walks}
use Rattle.protocol.specs.declared.plan.Plan.{Plan}
use Rattle.protocol.specs.Rules.{Rules, trip, patience, clock_limit}
use Rattle.protocol.specs.Party.{beat, noted, owning, legs_of, party, on_roll}
use Rattle.protocol.specs.State.{State, with_record, the, runs}
use Rattle.protocol.specs.Questions.{asks, log_asks}

-- one of the first n parties is such
abbrev pub any : (Party → Bool) → ℕ → List Party → Bool
any f n ps = list_any f (take n ps)

abbrev pub due_on : ℕ → Option Beat → Bool
due_on clock None = false
due_on clock (Some b) = b.last == clock

-- a due beat is still on a leg: the clock is its last tick
abbrev pub due : ℕ → Party → Bool
due clock p = due_on clock p.legs.out || (due_on clock p.legs.reply || due_on clock p.legs.entry)

-- the number of the first question answered no, 0 where each has a yes
abbrev pub tick_number : Plan → ℕ → State → ℕ
tick_number plan room s =
    asks (nat_lt s.table.clock clock_limit) 10
    (asks (not (any (due s.table.clock) plan.n s.table.parties)) 11 (log_asks (2 * plan.n) room s))

-- a round ends: a party on the roll has missed none when it was heard, otherwise one more
abbrev pub missed_as : Roll → Note → Note
missed_as On n = noted On n.heard (cond n.heard 0 (n.misses + 1))
missed_as Off n = n
missed_as Struck n = n

abbrev pub missed : Party → Party
missed p = party (missed_as p.note.roll p.note) p.own p.legs

-- the same where a count goes no further than `most`
abbrev pub missed_up_to : ℕ → Roll → Note → Note
missed_up_to most On n = noted On n.heard (min (cond n.heard 0 (n.misses + 1)) most)
missed_up_to most Off n = n
missed_up_to most Struck n = n

abbrev pub missed_to : ℕ → Party → Party
missed_to most p = party (missed_up_to most p.note.roll p.note) p.own p.legs

-- a party on the roll that has missed all the rounds of the pace
abbrev pub missed_all : ℕ → Party → Bool
missed_all rounds p = on_roll p.note.roll && p.note.misses == rounds

-- the wait so far, or a party's own at its misses where that is shorter
abbrev pub shorter : List ℕ → ℕ → Party → ℕ
shorter waits w p =
    cond (on_roll p.note.roll) (min w (unwrap_or (slice_get waits p.note.misses) w)) w

-- the smallest wait in force on the roll, tmax where it is empty
abbrev pub shortest : List ℕ → ℕ → ℕ → List Party → ℕ
shortest waits tmax n ps = fold (shorter waits) tmax (take n ps)

-- the root's beat goes out to a party on the roll, which is not heard yet in the new round
abbrev pub sends_as : Roll → ℕ → ℕ → Party → Party
sends_as On last place p =
    party (noted On false p.note.misses) p.own
    (legs_of (Some (beat last false place)) p.legs.reply p.legs.entry)
sends_as Off last place p = p
sends_as Struck last place p = p

abbrev pub sends : ℕ → ℕ → Party → Party
sends last place p = sends_as p.note.roll last place p

-- the group within a tick, whose count of records is set at the end
abbrev pub amid : List Party → List Happening → Table → State
amid ps log t =
    record { table = record t { parties = ps }; log = log }

-- the parties after a pass over the first n, of which each may lengthen the log
abbrev pub after_pass :
    (ℕ → List Happening → Party → Party) → (ℕ → List Happening → Party → List Happening) →
    ℕ → State → State
after_pass f g n s =
    let ps = s.table.parties in
    amid (walks f g 1 n s.log ps) (folds g 1 n s.log ps) s.table

-- a round ends: misses are counted of everybody on the roll
abbrev pub after_count : ℕ → State → State
after_count n s =
    amid (walks (λ _ (u : ℕ) p. missed p) (λ _ (u : ℕ) _. u) 1 n 0 s.table.parties) s.log s.table

-- the root tells that it sends
abbrev pub send_log : ℕ → List Happening → Party → List Happening
send_log clock log p = cond (on_roll p.note.roll) (with_record clock 0 Sent log) log

-- a beat goes out on leg 1 to everybody on the roll, by rising number
abbrev pub after_sending : ℕ → ℕ → State → State
after_sending last n s =
    after_pass (λ _ log p. sends last (length log) p) (λ _ log p. send_log s.table.clock log p) n s

-- the root stops and sends nothing
abbrev pub after_stop : State → State
after_stop s =
    let t = s.table in
    record {
      table = record t { root = Down RootStopped t.clock };
      log = with_record t.clock 0 HasStopped s.log;
    }

-- a round of length w starts at the clock
abbrev pub after_start : ℕ → State → State
after_start w s =
    let t = s.table in
    record { table = record t { start = t.clock; length = w }; log = s.log }

abbrev pub after_verdict_of : Bool → Rules → State → State
after_verdict_of true rules s = after_stop s
after_verdict_of false rules s =
    let n = rules.plan.n in let m = rules.meaning in
    after_sending (s.table.clock + trip m) n
    (after_start (shortest m.waits m.tmax n s.table.parties) s)

-- once the misses are counted: the root stops where a party has missed all rounds,
-- otherwise it starts the next round and sends
abbrev pub after_verdict : Rules → State → State
after_verdict rules s =
    let stops = missed_all (length rules.meaning.waits) in
    after_verdict_of (any stops rules.plan.n s.table.parties) rules s

abbrev pub after_round_if : Bool → Rules → State → State
after_round_if true rules s = after_verdict rules (after_count rules.plan.n s)
after_round_if false rules s = s

-- the root runs, and the clock is at the end of the round
abbrev pub round_ends : Table → Bool
round_ends t = runs t.root && t.clock == t.start + t.length

-- the root acts, at the end of a round only
abbrev pub after_round : Rules → State → State
after_round rules s = after_round_if (round_ends s.table) rules s

-- the parties' own timers

-- how a party ends that has heard nothing for too long
abbrev pub silent_end : Stage → Ending
silent_end Leaving = Left
silent_end Joining = Stopped
silent_end In = Stopped

-- a joining party calls again after each positive multiple of tmin ticks of silence
abbrev pub calls_in : Stage → ℕ → ℕ → Bool
calls_in Joining tmin silent = nat_lt 0 silent && silent % tmin == 0
calls_in In tmin silent = false
calls_in Leaving tmin silent = false

-- a live party ends where its patience has, otherwise it may call again
abbrev pub times_live : Bool → Bool → Stage → ℕ → ℕ → ℕ → Party → Party
times_live true calls g clock last place p =
    party p.note (owning (Ended (silent_end g) clock g) p.own.since) p.legs
times_live false true g clock last place p =
    party p.note p.own (legs_of p.legs.out p.legs.reply (Some (beat last false place)))
times_live false false g clock last place p = p

abbrev pub times_as : Standing → ℕ → ℕ → ℕ → ℕ → ℕ → Party → Party
times_as Outside clock patience tmin last place p = p
times_as (Live g) clock patience tmin last place p =
    let silent = clock - p.own.since in
    times_live (nat_le patience silent) (calls_in g tmin silent) g clock last place p
times_as (Ended how at g) clock patience tmin last place p = p

-- the party's timer at the end of a tick
abbrev pub times : ℕ → ℕ → ℕ → ℕ → ℕ → Party → Party
times clock patience tmin last place p = times_as p.own.standing clock patience tmin last place p

-- the kind of record that tells of such an end
abbrev pub ended_word : Ending → HappeningKind
ended_word Crashed = HasCrashed
ended_word Stopped = HasStopped
ended_word Left = HasLeft

-- a live party tells that it ends, or that it calls again
abbrev pub live_word : Bool → Bool → Stage → Option HappeningKind
live_word true calls g = Some (ended_word (silent_end g))
live_word false true g = Some Sent
live_word false false g = None

-- only a live party has a timer
abbrev pub timer_word : Standing → ℕ → ℕ → ℕ → ℕ → Option HappeningKind
timer_word Outside clock patience tmin since = None
timer_word (Live g) clock patience tmin since =
    let silent = clock - since in live_word (nat_le patience silent) (calls_in g tmin silent) g
timer_word (Ended how at g) clock patience tmin since = None

-- one record more with that word, if there is one
abbrev pub tells_if : Option HappeningKind → ℕ → ℕ → List Happening → List Happening
tells_if None clock i log = log
tells_if (Some w) clock i log = with_record clock i w log

abbrev pub timer_log : Standing → ℕ → ℕ → ℕ → ℕ → ℕ → List Happening → List Happening
timer_log st clock patience tmin since i log =
    tells_if (timer_word st clock patience tmin since) clock i log

-- each party's timer, rising
abbrev pub after_timers : ℕ → ℕ → ℕ → ℕ → State → State
after_timers patience tmin trip n s =
    after_pass (λ _ log p. times s.table.clock patience tmin (s.table.clock + trip) (length log) p)
    (λ i log p. timer_log p.own.standing s.table.clock patience tmin p.own.since i log) n s

-- the whole tick

-- the clock gains 1, and the table counts the records
abbrev pub after_clock : State → State
after_clock s =
    let t = s.table in
    record { table = record t { clock = t.clock + 1; logged = length s.log }; log = s.log }

-- a tick closes: first the root, then each other party, then the clock
abbrev pub after_tick : Rules → State → State
after_tick rules s =
    let m = rules.meaning in
    let d = patience m rules.plan.kind in
    after_clock (after_timers d m.tmin (trip m) rules.plan.n (after_round rules s))

-- the legs on which the root and the joining parties send are free
abbrev pub LegsFreeAtTick : Rules → State → Type 0
LegsFreeAtTick rules s =
    (i : ℕ) → 1 ≤ i → i ≤ rules.plan.n →
    let t = s.table in let p = the i t in
    (round_ends t ≡ true → p.note.roll ≡ On → p.legs.out ≡ None)
    × (p.own.standing ≡ Live Joining → p.own.since < t.clock →
    (t.clock - p.own.since) % rules.meaning.tmin ≡ 0 → p.legs.entry ≡ None)
