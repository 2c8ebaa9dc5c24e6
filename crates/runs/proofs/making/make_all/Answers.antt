use Rattle.std.proofs.Common.{arith}
use Rattle.runs.proofs.Stepping.{put_next}
use Rattle.runs.proofs.making.make_all.Goals as goal

pub loop-step-preserved : goal.loop-step-preserved
loop-step-preserved g c =
    let a = c.args in
    let x = c.loop-step in
    let y = c.perform-step.new in
    put_next x.step-index _ a.group.now x.group y.self a.log.now x.log y.log a.steps.now x.steps c.perform-step.result (omega arith) x.invariant c.perform-step.ensures
