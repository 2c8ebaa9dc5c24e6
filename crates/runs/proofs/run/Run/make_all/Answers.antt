use Rattle.runs.proofs.Keeping.{goes_on}
use Rattle.runs.proofs.run.Run.make_all.Goals as goal

pub invariant_of-self : goal.invariant_of-self
invariant_of-self g c =
    let r = c.args.self.now in
    let y = c.make_all.new in
    let e = c.make_all.ensures in
    record { run = goes_on r.group y.group r.log y.log y.steps (g.met.P.Pace.lawful r.group.pace) e.stays e.leads r.run }
