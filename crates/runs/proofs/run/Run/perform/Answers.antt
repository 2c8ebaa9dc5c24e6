use Rattle.runs.proofs.Keeping.{goes_on_by}
use Rattle.runs.proofs.run.Run.perform.Goals as goal

pub invariant_of-self : goal.invariant_of-self
invariant_of-self g c =
    let r = c.args.self.now in
    let y = c.perform.new in
    record { run = goes_on_by r.group y.self r.log y.log c.args.call c.perform.result (g.met.P.Pace.lawful r.group.pace) c.perform.ensures r.run }
