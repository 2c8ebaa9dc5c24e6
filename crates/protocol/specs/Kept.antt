-- The invariant of runs: what holds of each party and of the round between the calls.
-- Only the proofs of the laws need it. In what follows c is the clock, r the root, a and l the start
-- and the length of the round, h the tick when the party last heard, d its patience.
use Rattle.std.specs.Prelude.{◌≡◌, ℕ, suc, ◌+◌, ◌-◌, ◌%◌, ◌<◌, ◌≤◌, Bool, true, false, length, drop, Some, None, sum, Option, slice_index, slice_index_or}
use Rattle.pace.specs.Meaning.{Meaning}
use Rattle.protocol.specs.Rules.{trip, patience}
use Rattle.protocol.specs.Party.{nobody}
use Rattle.protocol.specs.declared.table.Table.{Table}
use Rattle.protocol.specs.declared.party.Party.{Party}
use Rattle.protocol.specs.declared.party.Note.{Note}
use Rattle.protocol.specs.declared.party.Own.{Own}
use Rattle.protocol.specs.declared.party.Legs.{Legs}
use Rattle.protocol.specs.declared.party.Beat.{Beat}
use Rattle.protocol.specs.declared.party.Stage.{Stage}
use Rattle.protocol.specs.declared.party.Stage.TheVariants.{Joining, In, Leaving}
use Rattle.protocol.specs.declared.party.Ending.{Ending}
use Rattle.protocol.specs.declared.party.Ending.TheVariants.{Crashed, Stopped, Left}
use Rattle.protocol.specs.declared.party.Standing.{Standing}
use Rattle.protocol.specs.declared.party.Standing.TheVariants.{Outside, Live, Ended}
use Rattle.protocol.specs.declared.party.Roll.{Roll}
use Rattle.protocol.specs.declared.party.Roll.TheVariants.{Off, On, Struck}
use Rattle.protocol.specs.declared.table.Root.{Root}
use Rattle.protocol.specs.declared.table.Root.TheVariants.{Running, Down}
use Rattle.protocol.specs.declared.kind.GroupKind.{GroupKind}
use Rattle.protocol.specs.declared.kind.GroupKind.TheVariants.{Closed, Expanding, Dynamic}

-- the numbers of a pace and a kind: the limits, the longest time that a beat is under way,
-- the sum of the waits, their number, the patience of a party, the wait at a place,
-- and the sum of the waits from a place on
pub record Terms : Type 0 where
  pub tmin : ℕ
  pub tmax : ℕ
  pub trip : ℕ
  pub total : ℕ
  pub span : ℕ
  pub patience : ℕ
  pub wait : ℕ → ℕ
  pub rest : ℕ → ℕ

-- the patience d is x where the group is closed, otherwise a trip more
abbrev pub IsPatience : GroupKind → ℕ → ℕ → ℕ → Type 0
IsPatience Closed d x trip = d ≡ x
IsPatience Expanding d x trip = d ≡ x + trip
IsPatience Dynamic d x trip = d ≡ x + trip

-- what a lawful pace gives of its numbers
pub record LawfulTerms (m : Terms) (kind : GroupKind) : Type 0 where
  pub low : 1 ≤ m.tmin
  pub ordered : m.tmin ≤ m.tmax
  pub some : 1 ≤ m.span
  pub takes_time : 1 ≤ m.trip
  pub trip_within : m.trip ≤ m.tmin
  pub patience : IsPatience kind m.patience (m.tmax + m.total) m.trip
  pub first : m.tmax ≤ m.total
  pub whole : m.rest 0 ≡ m.total
  pub step : (k : ℕ) → k < m.span → m.rest k ≡ m.wait k + m.rest (suc k)
  pub part : (k : ℕ) → m.rest k ≤ m.total

-- no beat is on the leg
abbrev pub Gone : Option Beat → Type 0
Gone None = Unit {0}
Gone (Some b) = ⊥

-- a beat on the leg is not parting
abbrev pub Staying : Option Beat → Type 0
Staying None = Unit {0}
Staying (Some b) = b.parting ≡ false

-- not both legs hold a beat
abbrev pub Alone : Option Beat → Option Beat → Type 0
Alone None y = Unit {0}
Alone (Some b) y = Gone y

-- a beat from the root is not past its last tick, which is `due`
abbrev pub Out : ℕ → ℕ → Option Beat → Type 0
Out c due None = Unit {0}
Out c due (Some b) = (c ≤ b.last) × (b.last ≡ due)

-- nor is a reply, and its sender heard the root in this round
abbrev pub Reply : ℕ → ℕ → ℕ → ℕ → Option Beat → Type 0
Reply c due a h None = Unit {0}
Reply c due a h (Some b) = (c ≤ b.last) × (b.last ≡ due) × (a ≤ h)

-- the last tick at which a joining beat may have been sent
abbrev pub sent_by : Standing → ℕ → ℕ → ℕ
sent_by Outside c h = c
sent_by (Live Joining) c h = c
sent_by (Live In) c h = h
sent_by (Live Leaving) c h = h
sent_by (Ended how e Joining) c h = e
sent_by (Ended how e In) c h = h
sent_by (Ended how e Leaving) c h = h

-- a joining beat is not past its last tick, which is at most `due`, and is not parting
abbrev pub Entry : ℕ → ℕ → Option Beat → Type 0
Entry c due None = Unit {0}
Entry c due (Some b) = (c ≤ b.last) × (b.last ≤ due) × (b.parting ≡ false)

-- what roll and legs go with a stage, also with the last one of a party that has ended
abbrev pub Rolled : Stage → Roll → Legs → Type 0
Rolled Joining Off g = Gone g.out × Gone g.reply
Rolled Joining On g = Gone g.reply
Rolled Joining Struck g = ⊥
Rolled In Off g = ⊥
Rolled In On g = Staying g.reply
Rolled In Struck g = ⊥
Rolled Leaving Off g = ⊥
Rolled Leaving On g = Unit {0}
Rolled Leaving Struck g = Gone g.out × Gone g.reply

-- an outside party is off the roll and has nothing on its legs
abbrev pub Unrolled : Roll → Legs → Type 0
Unrolled Off g = Gone g.out × Gone g.reply × Gone g.entry
Unrolled On g = ⊥
Unrolled Struck g = ⊥

-- roll and legs go with where the party stands
abbrev pub Placed : Standing → Roll → Legs → Type 0
Placed Outside r g = Unrolled r g
Placed (Live s) r g = Rolled s r g
Placed (Ended how e s) r g = Rolled s r g

-- the stage is in
abbrev pub StaysIn : Stage → Type 0
StaysIn Joining = ⊥
StaysIn In = Unit {0}
StaysIn Leaving = ⊥

-- the party is in, or ended from there
abbrev pub OnlyIn : Standing → Type 0
OnlyIn Outside = ⊥
OnlyIn (Live s) = StaysIn s
OnlyIn (Ended how e s) = StaysIn s

-- in a closed group nobody joins or leaves
abbrev pub Fixed : GroupKind → Standing → Option Beat → Type 0
Fixed Closed s o = OnlyIn s × Gone o
Fixed Expanding s o = Unit {0}
Fixed Dynamic s o = Unit {0}

-- only a leaving party leaves, and such a one does not stop
abbrev pub Fated : Ending → Stage → Type 0
Fated Crashed s = Unit {0}
Fated Stopped Joining = Unit {0}
Fated Stopped In = Unit {0}
Fated Stopped Leaving = ⊥
Fated Left Joining = ⊥
Fated Left In = ⊥
Fated Left Leaving = Unit {0}

-- a party ended not after the clock and not before it last heard
abbrev pub Finished : Standing → ℕ → ℕ → Type 0
Finished Outside c h = Unit {0}
Finished (Live s) c h = Unit {0}
Finished (Ended how e s) c h = (e ≤ c) × (h ≤ e) × Fated how s

-- x comes no later than d after what the root last had of the party
abbrev pub By : Standing → ℕ → ℕ → ℕ → Type 0
By Outside h d x = Unit {0}
By (Live Joining) h d x = Unit {0}
By (Live In) h d x = x ≤ h + d
By (Live Leaving) h d x = x ≤ h + d
By (Ended how e s) h d x = x ≤ e + d

-- a running root has missed less than all rounds of a party; where the party is on the roll,
-- the root's deadline for it, x and the rest of the waits, lies within P
abbrev pub Pressed : Root → Roll → Bool → (ℕ → Type 0) → ℕ → Terms → ℕ → ℕ → Type 0
Pressed (Down how e) roll heard P x m l n = Unit {0}
Pressed Running Off heard P x m l n = n < m.span
Pressed Running Struck heard P x m l n = n < m.span
Pressed Running On true P x m l n = (n < m.span) × P (x + m.total)
Pressed Running On false P x m l n = (n < m.span) × P (x + m.rest (suc n)) × (l ≤ m.wait n)

-- a live party has not been silent for longer than its patience
abbrev pub Patient : Standing → ℕ → ℕ → ℕ → Type 0
Patient Outside c h d = Unit {0}
Patient (Live s) c h d = c ≤ h + d
Patient (Ended how e s) c h d = Unit {0}

-- a party on the roll hears nothing for long after the root's end
abbrev pub After : Root → Roll → Standing → ℕ → ℕ → Type 0
After Running roll st h trip = Unit {0}
After (Down how e) Off st h trip = Unit {0}
After (Down how e) Struck st h trip = Unit {0}
After (Down how e) On Outside h trip = Unit {0}
After (Down how e) On (Live s) h trip = h ≤ e + trip
After (Down how e) On (Ended how' e' s) h trip = Unit {0}

-- the root ended no later than x
abbrev pub EndedBy : Root → ℕ → Type 0
EndedBy Running x = ⊥
EndedBy (Down how e) x = e ≤ x

-- a party that stopped while it was in did so after the root's end
abbrev pub Cause : Standing → Root → Type 0
Cause Outside r = Unit {0}
Cause (Live s) r = Unit {0}
Cause (Ended Crashed e s) r = Unit {0}
Cause (Ended Left e s) r = Unit {0}
Cause (Ended Stopped e Joining) r = Unit {0}
Cause (Ended Stopped e In) r = EndedBy r e
Cause (Ended Stopped e Leaving) r = Unit {0}

-- the root runs
abbrev pub Up : Root → Type 0
Up Running = Unit {0}
Up (Down how e) = ⊥

-- the party has neither crashed nor stopped
abbrev pub Well : Standing → Type 0
Well Outside = Unit {0}
Well (Live s) = Unit {0}
Well (Ended Crashed e s) = ⊥
Well (Ended Stopped e s) = ⊥
Well (Ended Left e s) = Unit {0}

-- the party is joining, in or leaving
abbrev pub Alive : Standing → Type 0
Alive Outside = ⊥
Alive (Live s) = Unit {0}
Alive (Ended how e s) = ⊥

-- a sign of life has come in this round or is on its way
abbrev pub Word : Bool → Option Beat → Option Beat → Type 0
Word true o y = Unit {0}
Word false (Some b) y = Unit {0}
Word false None (Some d) = Unit {0}
Word false None None = ⊥

-- the party's next beat comes before its patience ends
abbrev pub Ahead : Option Beat → ℕ → ℕ → ℕ → Type 0
Ahead None a l x = a + l ≤ x
Ahead (Some b) a l x = a ≤ x

-- a joining party's beat is on its leg, with last tick x
abbrev pub Called : Standing → Option Beat → ℕ → Type 0
Called Outside o x = Unit {0}
Called (Live Joining) None x = ⊥
Called (Live Joining) (Some b) x = b.last ≡ x
Called (Live In) o x = Unit {0}
Called (Live Leaving) o x = Unit {0}
Called (Ended how e s) o x = Unit {0}

-- a joining beat goes out each time so many ticks have passed since the joining
abbrev pub Beckoned : ℕ → ℕ → ℕ → Standing → ℕ → Option Beat → Type 0
Beckoned tmin trip c Outside h o = Unit {0}
Beckoned tmin trip c (Live Joining) h None = Unit {0}
Beckoned tmin trip c (Live Joining) h (Some b) =
    (h + trip ≤ b.last) × ((b.last - (h + trip)) % tmin ≡ 0) × (h < c → b.last < c + trip)
Beckoned tmin trip c (Live In) h o = Unit {0}
Beckoned tmin trip c (Live Leaving) h o = Unit {0}
Beckoned tmin trip c (Ended how e s) h o = Unit {0}

-- where each loss and crash was refused: a joining party's call is under way,
-- and a party on the roll has missed nothing, lives and will be heard
abbrev pub Trusted : Roll → Note → Own → Legs → ℕ → ℕ → ℕ → ℕ → Type 0
Trusted Off n o g trip d a l = Called o.standing g.entry (o.since + trip)
Trusted On n o g trip d a l =
    (n.misses ≡ 0) × Alive o.standing × Word n.heard g.out g.reply
    × Ahead g.out (a + trip) l (o.since + d)
Trusted Struck n o g trip d a l = Unit {0}

-- where no loss and no crash was granted (the Bool), the root runs and nobody has crashed or
-- stopped
abbrev pub Clean : Bool → Root → Note → Own → Legs → ℕ → ℕ → ℕ → ℕ → Type 0
Clean false r n o g trip d a l = Unit {0}
Clean true r n o g trip d a l = Up r × Well o.standing × Trusted n.roll n o g trip d a l

-- the clock is in the round of a running root, and not before the end of another
abbrev pub Timely : Root → ℕ → ℕ → ℕ → Type 0
Timely Running c a l = c ≤ a + l
Timely (Down how e) c a l = (e ≤ c) × (a ≤ e)

-- the round: its length lies between the limits, it began not after the clock,
-- and the clock is in it
pub record Scene (m : Terms) (c : ℕ) (r : Root) (a l : ℕ) : Type 0 where
  pub long : m.tmin ≤ l
  pub short : l ≤ m.tmax
  pub begun : a ≤ c
  pub timely : Timely r c a l

-- what holds of one party p; q says that each loss and crash so far was refused
pub record Kept (m : Terms) (kind : GroupKind) (q : Bool) (c : ℕ) (r : Root) (a l : ℕ)
    (p : Party) : Type 0 where
  -- it last heard not after the clock
  pub past : p.own.since ≤ c
  -- a beat out from the root is of this round and may still arrive
  pub out : Out c (a + m.trip) p.legs.out
  -- so is a reply
  pub reply : Reply c (a + m.trip) a p.own.since p.legs.reply
  -- a beat is out or its reply is back, not both
  pub alone : Alone p.legs.out p.legs.reply
  -- a joining beat may still arrive, and was not sent after the party was in or had ended
  pub entry : Entry c (sent_by p.own.standing c p.own.since + m.trip) p.legs.entry
  -- its roll and its legs go with where it stands
  pub placed : Placed p.own.standing p.note.roll p.legs
  -- in a closed group it is in, or ended from there
  pub fixed : Fixed kind p.own.standing p.legs.entry
  -- its end came not after the clock, and not before it last heard
  pub finished : Finished p.own.standing c p.own.since
  -- a running root stops within the patience of a party on the roll that is heard no more
  pub pressed :
      Pressed r p.note.roll p.note.heard (By p.own.standing p.own.since m.patience)
      (a + l) m l p.note.misses
  -- a live party has not outlived its patience
  pub patient : Patient p.own.standing c p.own.since m.patience
  -- a party on the roll hears nothing for long after the root's end
  pub after : After r p.note.roll p.own.standing p.own.since m.trip
  -- a party that stopped while it was in did so after the root's end
  pub cause : Cause p.own.standing r
  -- joining beats go out every tmin ticks from the joining on
  pub beckoned : Beckoned m.tmin m.trip c p.own.standing p.own.since p.legs.entry
  -- nobody crashes or stops where no loss and no crash was granted
  pub spared : Clean q r p.note p.own p.legs m.trip m.patience a l

-- the numbers of a pace in a group of such a kind
abbrev pub terms : Meaning → GroupKind → Terms
terms m kind = record {
  tmin = m.tmin;
  tmax = m.tmax;
  trip = trip m;
  total = sum m.waits;
  span = length m.waits;
  patience = patience m kind;
  wait = λ k. slice_index m.waits k;
  rest = λ k. sum (drop k m.waits);
}

-- what holds of the round and of each of the first n parties
pub record Whole (m : Terms) (kind : GroupKind) (q : Bool) (n : ℕ) (t : Table) : Type 0 where
  pub scene : Scene m t.clock t.root t.start t.length
  pub each :
      (k : ℕ) → k < n →
      Kept m kind q t.clock t.root t.start t.length (slice_index_or t.parties k nobody)
  pub long : n ≤ length t.parties
