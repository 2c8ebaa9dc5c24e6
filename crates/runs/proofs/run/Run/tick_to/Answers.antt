use Rattle.std.proofs.Common.{◌-◌, replicate}
use Rattle.protocol.specs.declared.call.Call.TheVariants.{Tick}
use Rattle.runs.proofs.Keeping.{goes_on_making}
use Rattle.runs.proofs.run.Run.tick_to.Goals as goal

pub invariant_of-self : goal.invariant_of-self
invariant_of-self g c =
    let r = c.args.self.now in
    let y = c.tick_to.new in
    record { run = goes_on_making (replicate (c.args.until - r.group.table.clock) Tick) r.group y.group r.log y.log _ (g.met.P.Pace.lawful r.group.pace) c.tick_to.ensures r.run }
