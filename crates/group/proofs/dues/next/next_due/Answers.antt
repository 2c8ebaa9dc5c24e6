use Rattle.std.proofs.Common.{arith}
use Rattle.group.proofs.Silence.{quiet_by}
use Rattle.group.proofs.dues.next.next_due.Goals as goal

pub returns-clause-until : goal.returns-clause-until
returns-clause-until g c =
    let timer = c.at.ensures in
    record {
      limit = λ later. omega (arith, later);
      quiet = λ x from before.
          quiet_by (g.P.Pace.means c.args.pace.now) c.args.plan.now c.args.table.now _ _ x timer.patience timer.tmin
          (c.round_due-round.ensures x (omega arith))
          (rw c.members.ensures at (c.parties_due-parties.ensures x (omega arith) (omega arith)));
    }
