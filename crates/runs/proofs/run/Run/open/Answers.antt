use Rattle.slots.proofs.Growing.{fresh}
use Rattle.runs.proofs.Keeping.{opened, opens}
use Rattle.runs.proofs.run.Run.open.Goals as goal

pub invariant_of-result : goal.invariant_of-result
invariant_of-result g c =
    let a = c.open.result in
    let o = c.open.ensures in
    let l = c.new.result in
    record { run = opens a l (g.met.P.Pace.lawful a.pace) (opened c.args.pace c.args.plan a l o.pace o.plan o.table c.new.ensures.empty) }

pub returns-clause-slots : goal.returns-clause-slots
returns-clause-slots g c = fresh c.new.result c.args.slots.now c.new.ensures.empty c.new.ensures.spare
