use Rattle.std.proofs.Common.{◌-◌}
use Rattle.runs.proofs.Ticking.{Towards}
use Rattle.runs.proofs.making.tick_to.Given as goal

abbrev pub invariant-loop-group : goal.invariant-loop-group
invariant-loop-group g l = Towards l.fn.until l.fn.group l.group l.fn.log l.log

abbrev pub decreases-loop-group : goal.decreases-loop-group
decreases-loop-group g l = l.until - l.group.table.clock
