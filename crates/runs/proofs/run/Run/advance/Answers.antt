use Rattle.runs.proofs.Keeping.{went_on}
use Rattle.runs.proofs.run.Run.advance.Goals as goal

pub invariant_of-self : goal.invariant_of-self
invariant_of-self g c =
    let r = c.args.self.now in
    let y = c.advance.new in
    record { run = went_on _ r.group y.self r.log y.log c.advance.result (g.met.P.Pace.lawful r.group.pace) c.advance.ensures r.run }
