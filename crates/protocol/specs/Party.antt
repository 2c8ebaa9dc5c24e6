-- One party, with the root's note of it and its three legs.
use Rattle.std.specs.Prelude.{ℕ, Bool, true, false, cond, None, Option, ◌==◌}
use Rattle.protocol.specs.declared.kind.GroupKind.{GroupKind}
use Rattle.protocol.specs.declared.kind.GroupKind.TheVariants.{Closed, Expanding, Dynamic}
use Rattle.protocol.specs.declared.party.Party.{Party}
use Rattle.protocol.specs.declared.party.Note.{Note}
use Rattle.protocol.specs.declared.party.Own.{Own}
use Rattle.protocol.specs.declared.party.Legs.{Legs}
use Rattle.protocol.specs.declared.party.Beat.{Beat}
use Rattle.protocol.specs.declared.party.Stage.TheVariants.{In}
use Rattle.protocol.specs.declared.party.Standing.{Standing}
use Rattle.protocol.specs.declared.party.Standing.TheVariants.{Outside, Live, Ended}
use Rattle.protocol.specs.declared.party.Roll.{Roll}
use Rattle.protocol.specs.declared.party.Roll.TheVariants.{Off, On, Struck}

-- the parts of a party, made by hand

abbrev pub beat : ℕ → Bool → ℕ → Beat
beat l b p = record { last = l; parting = b; place = p }

abbrev pub noted : Roll → Bool → ℕ → Note
noted r h m = record { roll = r; heard = h; misses = m }

abbrev pub owning : Standing → ℕ → Own
owning s t = record { standing = s; since = t }

abbrev pub legs_of : Option Beat → Option Beat → Option Beat → Legs
legs_of a b c = record { out = a; reply = b; entry = c }

abbrev pub party : Note → Own → Legs → Party
party n o l = record { note = n; own = o; legs = l }

-- a party of a new group: in and on the roll where it is closed, otherwise outside and off
abbrev pub fresh : GroupKind → Party
fresh Closed = party (noted On true 0) (owning (Live In) 0) (legs_of None None None)
fresh Expanding = party (noted Off true 0) (owning Outside 0) (legs_of None None None)
fresh Dynamic = party (noted Off true 0) (owning Outside 0) (legs_of None None None)

-- stands for a party where there is none
abbrev pub nobody : Party
nobody = party (noted Off false 0) (owning Outside 0) (legs_of None None None)

-- joining, in or leaving
abbrev pub live : Standing → Bool
live Outside = false
live (Live g) = true
live (Ended how at g) = false

-- on the roll
abbrev pub on_roll : Roll → Bool
on_roll On = true
on_roll Off = false
on_roll Struck = false

-- the legs: 1 to the party, 2 its replies, 3 its joining beats

abbrev pub on_leg : ℕ → Party → Option Beat
on_leg leg p =
    cond (leg == 1) p.legs.out
    (cond (leg == 2) p.legs.reply
    (cond (leg == 3) p.legs.entry None))

abbrev pub off_out : Party → Party
off_out p = party p.note p.own (legs_of None p.legs.reply p.legs.entry)

abbrev pub off_reply : Party → Party
off_reply p = party p.note p.own (legs_of p.legs.out None p.legs.entry)

abbrev pub off_entry : Party → Party
off_entry p = party p.note p.own (legs_of p.legs.out p.legs.reply None)

-- the beat on the leg is taken off; any other leg is none
abbrev pub off_leg : ℕ → Party → Party
off_leg leg p =
    cond (leg == 1) (off_out p)
    (cond (leg == 2) (off_reply p)
    (cond (leg == 3) (off_entry p) p))
