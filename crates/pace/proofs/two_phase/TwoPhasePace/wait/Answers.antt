use Rattle.std.proofs.Common.{arith, rules}
use Rattle.pace.proofs.TwoPhasePace.{nth_phases, nth_phases_past}
use Rattle.pace.proofs.two_phase.TwoPhasePace.wait.Goals as goal

pub returns-in-1-to-63 : goal.returns-in-1-to-63
returns-in-1-to-63 c =
    let l = c.args.self.now.limits in
    let e = nth_phases 63 l.tmin l.tmax c.args.k (λ z. omega arith) (omega arith) in
    cc

pub returns-in_default : goal.returns-in_default
returns-in_default c = search (rules, nth_phases_past)
