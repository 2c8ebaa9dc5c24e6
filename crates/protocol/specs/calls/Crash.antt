-- The root or a party crashes: what is asked, and what it does.
use Rattle.std.specs.Prelude.{ℕ, Bool, nat_le, zero, suc}
use Rattle.protocol.specs.declared.party.Party.{Party}
use Rattle.protocol.specs.declared.party.Ending.TheVariants.{Crashed}
use Rattle.protocol.specs.declared.party.Standing.{Standing}
use Rattle.protocol.specs.declared.party.Standing.TheVariants.{Outside, Live, Ended}
use Rattle.protocol.specs.declared.table.Root.{Root}
use Rattle.protocol.specs.declared.table.Root.TheVariants.{Running, Down}
use Rattle.protocol.specs.declared.table.RootEnding.TheVariants.{Crashed as RootCrashed}
use Rattle.protocol.specs.declared.happening.HappeningKind.TheVariants.{Crashed as HasCrashed}
use Rattle.protocol.specs.declared.plan.Plan.{Plan}
use Rattle.protocol.specs.Party.{owning, party, live}
use Rattle.protocol.specs.State.{State, with_record, the, with_root, with_party, runs}
use Rattle.protocol.specs.Questions.{asks, log_asks}

-- the root (party 0) runs, or the party is joining, in or leaving
abbrev pub can_crash : ℕ → State → Bool
can_crash zero s = runs s.table.root
can_crash (suc i) s = live (the (suc i) s.table).own.standing

-- the number of the first question answered no, 0 where each has a yes
abbrev pub crash_number : Plan → ℕ → ℕ → State → ℕ
crash_number plan room i s = asks (nat_le i plan.n) 6 (asks (can_crash i s) 8 (log_asks 2 room s))

-- only a live party crashes; it keeps when that was, and its stage before
abbrev pub standing_after_crash : Standing → ℕ → Standing
standing_after_crash Outside clock = Outside
standing_after_crash (Live g) clock = Ended Crashed clock g
standing_after_crash (Ended how at g) clock = Ended how at g

abbrev pub crashes : ℕ → Party → Party
crashes clock p = party p.note (owning (standing_after_crash p.own.standing clock) p.own.since) p.legs

abbrev pub root_after_crash : Root → ℕ → Root
root_after_crash Running clock = Down RootCrashed clock
root_after_crash (Down how at) clock = Down how at

-- the root crashes, which is party 0, or another party
abbrev pub after_crash : ℕ → State → State
after_crash zero s =
    let t = s.table in
    with_root (root_after_crash t.root t.clock) (with_record t.clock 0 HasCrashed s.log) t
after_crash (suc i) s =
    let t = s.table in
    with_party (suc i) (crashes t.clock (the (suc i) t))
    (with_record t.clock (suc i) HasCrashed s.log) t
