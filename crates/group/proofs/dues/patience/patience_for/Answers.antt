use Rattle.std.proofs.Common.{sym, arith}
use Rattle.group.proofs.Silence.{least_does}
use Rattle.group.proofs.dues.patience.patience_for.Goals as goal

pub returns-else-is_any_silent : goal.returns-else-is_any_silent
returns-else-is_any_silent g c =
    let pace = c.args.pace.now in
    least_does (g.P.Pace.means pace) (g.met.P.Pace.lawful pace) c.args.plan.now c.args.table.now _ (omega arith)
    (sym c.if-is_any_silent.ensures)
