-- A party leaves: what is asked, and what it does.
use Rattle.std.specs.Prelude.{ℕ, Bool, true, false}
use Rattle.protocol.specs.declared.kind.GroupKind.{GroupKind}
use Rattle.protocol.specs.declared.kind.GroupKind.TheVariants.{Closed, Expanding, Dynamic}
use Rattle.protocol.specs.declared.party.Party.{Party}
use Rattle.protocol.specs.declared.party.Stage.{Stage}
use Rattle.protocol.specs.declared.party.Stage.TheVariants.{Joining, In, Leaving}
use Rattle.protocol.specs.declared.party.Standing.{Standing}
use Rattle.protocol.specs.declared.party.Standing.TheVariants.{Outside, Live, Ended}
use Rattle.protocol.specs.declared.happening.HappeningKind.TheVariants.{Leaving as IsLeaving}
use Rattle.protocol.specs.declared.plan.Plan.{Plan}
use Rattle.protocol.specs.Party.{owning, party}
use Rattle.protocol.specs.State.{State, with_record, the, with_party}
use Rattle.protocol.specs.Questions.{asks, is_party, log_asks}

abbrev pub may_leave : GroupKind → Bool
may_leave Closed = false
may_leave Expanding = false
may_leave Dynamic = true

abbrev pub is_in_stage : Stage → Bool
is_in_stage Joining = false
is_in_stage In = true
is_in_stage Leaving = false

abbrev pub is_in : Standing → Bool
is_in Outside = false
is_in (Live g) = is_in_stage g
is_in (Ended how at g) = false

-- the number of the first question answered no, 0 where each has a yes
abbrev pub leave_number : Plan → ℕ → ℕ → State → ℕ
leave_number plan room i s =
    asks (is_party plan.n i) 6
    (asks (may_leave plan.kind) 7
    (asks (is_in (the i s.table).own.standing) 8 (log_asks 2 room s)))

abbrev pub now_leaving : Party → Party
now_leaving p = party p.note (owning (Live Leaving) p.own.since) p.legs

-- party i is leaving
abbrev pub after_leave : ℕ → State → State
after_leave i s =
    let t = s.table in
    with_party i (now_leaving (the i t)) (with_record t.clock i IsLeaving s.log) t
