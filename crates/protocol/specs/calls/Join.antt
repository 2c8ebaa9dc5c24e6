-- A party joins: what is asked, what it does, and the leg on which it sends.
use Rattle.std.specs.Prelude.{ℕ, ◌+◌, Bool, true, false, Some, None, length, ◌≡◌}
use Rattle.protocol.specs.declared.kind.GroupKind.{GroupKind}
use Rattle.protocol.specs.declared.kind.GroupKind.TheVariants.{Closed, Expanding, Dynamic}
use Rattle.protocol.specs.declared.party.Party.{Party}
use Rattle.protocol.specs.declared.party.Stage.TheVariants.{Joining}
use Rattle.protocol.specs.declared.party.Standing.{Standing}
use Rattle.protocol.specs.declared.party.Standing.TheVariants.{Outside, Live, Ended}
use Rattle.protocol.specs.declared.happening.HappeningKind.TheVariants.{Sent, Joining as IsJoining}
use Rattle.protocol.specs.declared.plan.Plan.{Plan}
use Rattle.protocol.specs.Rules.{trip}
use Rattle.protocol.specs.Party.{beat, owning, legs_of, party}
use Rattle.protocol.specs.State.{State, with_record, the, with_party}
use Rattle.protocol.specs.Questions.{asks, is_party, log_asks}

abbrev pub may_join : GroupKind → Bool
may_join Closed = false
may_join Expanding = true
may_join Dynamic = true

abbrev pub is_outside : Standing → Bool
is_outside Outside = true
is_outside (Live g) = false
is_outside (Ended how at g) = false

-- the number of the first question answered no, 0 where each has a yes
abbrev pub join_number : Plan → ℕ → ℕ → State → ℕ
join_number plan room i s =
    asks (is_party plan.n i) 6
    (asks (may_join plan.kind) 7
    (asks (is_outside (the i s.table).own.standing) 8 (log_asks 2 room s)))

-- the party is joining from now on, and its first joining beat is sent
abbrev pub joined : ℕ → ℕ → ℕ → Party → Party
joined clock last place p =
    party p.note (owning (Live Joining) clock)
    (legs_of p.legs.out p.legs.reply (Some (beat last false place)))

abbrev pub after_join : ℕ → ℕ → State → State
after_join trip i s =
    let t = s.table in
    with_party i (joined t.clock (t.clock + trip) (length s.log + 1) (the i t))
    (with_record t.clock i Sent (with_record t.clock i IsJoining s.log)) t

-- the leg of a joining beat is free
abbrev pub EntryLegFree : ℕ → State → Type 0
EntryLegFree i s = (the i s.table).legs.entry ≡ None
