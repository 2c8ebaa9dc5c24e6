-- The beat on a leg of a party is lost; what is asked is asked of a delivery too.
use Rattle.std.specs.Prelude.{ℕ, cond, Some, None, Option, ◌==◌}
use Rattle.protocol.specs.declared.party.Beat.{Beat}
use Rattle.protocol.specs.declared.happening.HappeningKind.TheVariants.{Lost}
use Rattle.protocol.specs.Party.{on_leg, off_leg}
use Rattle.protocol.specs.State.{State, with_linked, the, with_party}

-- who sends on a leg: the root on leg 1, the party on the others
abbrev pub sender : ℕ → ℕ → ℕ
sender leg i = cond (leg == 1) 0 i

abbrev pub after_loss_of : Option Beat → ℕ → ℕ → State → State
after_loss_of None i leg s = s
after_loss_of (Some b) i leg s =
    let t = s.table in
    with_party i (off_leg leg (the i t)) (with_linked t.clock (sender leg i) Lost b.place s.log) t

-- the beat on the leg of party i is lost
abbrev pub after_loss : ℕ → ℕ → State → State
after_loss i leg s = after_loss_of (on_leg leg (the i s.table)) i leg s
