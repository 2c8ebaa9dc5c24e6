use Rattle.std.proofs.Common.{arith}
use Rattle.pace.proofs.HalvingPace.{bits_ordered, told_reach, told_short}
use Rattle.pace.proofs.halving.HalvingPace.rounds.Goals as goal

pub overflow_sub-d : goal.overflow_sub-d
overflow_sub-d c = bits_ordered c.tmin-low.result c.tmax-high.result (omega arith) (omega arith) (omega arith)

pub returns-then-low-high : goal.returns-then-low-high
returns-then-low-high c =
    let t = told_reach c.args.self.now.limits c.tmin-low.result c.tmax-high.result c.tmin-low.ensures c.tmax-high.ensures (omega arith) in
    record { count = t.count; largest = t.largest; apart = t.apart }

pub returns-else-low-high : goal.returns-else-low-high
returns-else-low-high c =
    let t = told_short c.args.self.now.limits c.tmin-low.result c.tmax-high.result c.tmin-low.ensures c.tmax-high.ensures (omega arith) in
    record { count = t.count; largest = t.largest; apart = t.apart }
