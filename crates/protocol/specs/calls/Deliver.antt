-- The beat on a leg of a party arrives: what is asked, what it does, and the leg on which it sends.
use Rattle.std.specs.Prelude.{ℕ, ◌+◌, Bool, true, false, cond, Some, None, Option, ◌==◌, List, length, ◌≡◌, is_some}
use Rattle.protocol.specs.declared.party.Party.{Party}
use Rattle.protocol.specs.declared.party.Note.{Note}
use Rattle.protocol.specs.declared.party.Beat.{Beat}
use Rattle.protocol.specs.declared.party.Stage.{Stage}
use Rattle.protocol.specs.declared.party.Stage.TheVariants.{Joining, In, Leaving}
use Rattle.protocol.specs.declared.party.Standing.{Standing}
use Rattle.protocol.specs.declared.party.Standing.TheVariants.{Outside, Live, Ended}
use Rattle.protocol.specs.declared.party.Roll.{Roll}
use Rattle.protocol.specs.declared.party.Roll.TheVariants.{Off, On, Struck}
use Rattle.protocol.specs.declared.table.Root.{Root}
use Rattle.protocol.specs.declared.table.Root.TheVariants.{Running, Down}
use Rattle.protocol.specs.declared.happening.HappeningKind.TheVariants.{Sent, Arrived, Enrolled, Struck as IsStruck}
use Rattle.protocol.specs.declared.happening.Happening.{Happening}
use Rattle.protocol.specs.declared.plan.Plan.{Plan}
use Rattle.protocol.specs.Party.{beat, noted, owning, legs_of, party, live, on_leg, off_out, off_reply, off_entry}
use Rattle.protocol.specs.State.{State, with_record, with_linked, the, with_party, runs}
use Rattle.protocol.specs.Questions.{asks, is_party, log_asks}

-- the number of the first question answered no, 0 where each has a yes
abbrev pub beat_number : Plan → ℕ → ℕ → ℕ → State → ℕ
beat_number plan room i leg s =
    asks (is_party plan.n i) 6 (asks (is_some (on_leg leg (the i s.table))) 9 (log_asks 2 room s))

-- at the party

-- the stage of a party once it has heard the root: a joining one gets in
abbrev pub heard_stage : Stage → Stage
heard_stage Joining = In
heard_stage In = In
heard_stage Leaving = Leaving

-- a reply is parting just where the party is leaving
abbrev pub parts : Stage → Bool
parts Joining = false
parts In = false
parts Leaving = true

-- a beat of the root, of last tick l, arrives: a live party hears it at the clock
-- and puts a reply on leg 2, of the same last tick and sent at place
abbrev pub hears_as : Standing → ℕ → ℕ → ℕ → Party → Party
hears_as Outside clock place l p = p
hears_as (Live g) clock place l p =
    party p.note (owning (Live (heard_stage g)) clock)
    (legs_of p.legs.out (Some (beat l (parts g) place)) p.legs.entry)
hears_as (Ended how at g) clock place l p = p

-- at the root

-- the note of a running root at whom a beat of the party arrives:
-- a struck party stays struck, a parting beat strikes, any other is heard and enrols
abbrev pub answers_as : Roll → Bool → Note → Note
answers_as Struck b n = n
answers_as On true n = noted Struck n.heard n.misses
answers_as Off true n = noted Struck n.heard n.misses
answers_as On false n = noted On true n.misses
answers_as Off false n = noted On true 0

abbrev pub answers : Bool → Party → Party
answers parting p = party (answers_as p.note.roll parting p.note) p.own p.legs

-- a root that has ended takes no note
abbrev pub heeds : Root → Bool → Party → Party
heeds Running parting p = answers parting p
heeds (Down how at) parting p = p

-- the beat arrives

-- the beat b arrives from its leg, on leg 1 at the party, whose reply is sent at place,
-- and on legs 2 and 3 at the root
abbrev pub arrives : ℕ → Root → ℕ → Beat → ℕ → Party → Party
arrives clock root leg b place p =
    cond (leg == 1) (hears_as p.own.standing clock place b.last (off_out p))
    (cond (leg == 2) (heeds root b.parting (off_reply p))
    (cond (leg == 3) (heeds root b.parting (off_entry p)) p))

-- a running root tells when the party is struck or enrolled
abbrev pub answer_log : Roll → Bool → ℕ → ℕ → List Happening → List Happening
answer_log Struck parting clock i log = log
answer_log On true clock i log = with_record clock i IsStruck log
answer_log Off true clock i log = with_record clock i IsStruck log
answer_log On false clock i log = log
answer_log Off false clock i log = with_record clock i Enrolled log

-- arrived, by the receiver; then the reply of a live party is told, or what a running root notes
abbrev pub arrival_log : ℕ → Root → ℕ → Beat → ℕ → Party → List Happening → List Happening
arrival_log clock root leg b i p log =
    cond (leg == 1)
    (let log' = with_linked clock i Arrived b.place log in
    cond (live p.own.standing) (with_record clock i Sent log') log')
    (let log' = with_linked clock 0 Arrived b.place log in
    cond (runs root) (answer_log p.note.roll b.parting clock i log') log')

abbrev pub after_arrival : Option Beat → ℕ → ℕ → State → State
after_arrival None i leg s = s
after_arrival (Some b) i leg s =
    let t = s.table in
    with_party i (arrives t.clock t.root leg b (length s.log + 1) (the i t))
    (arrival_log t.clock t.root leg b i (the i t) s.log) t

-- the beat on the leg of party i arrives
abbrev pub after_delivery : ℕ → ℕ → State → State
after_delivery i leg s = after_arrival (on_leg leg (the i s.table)) i leg s

-- the leg on which a party replies is free
abbrev pub ReplyLegFree : ℕ → ℕ → State → Type 0
ReplyLegFree i leg s = leg ≡ 1 → (the i s.table).legs.reply ≡ None
