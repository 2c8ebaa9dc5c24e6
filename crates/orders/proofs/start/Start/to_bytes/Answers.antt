use Rattle.std.proofs.Common.{arith}
use Rattle.orders.proofs.Rereading.{start_again}
use Rattle.orders.proofs.start.Start.to_bytes.Goals as goal

pub returns-clause-reads_back : goal.returns-clause-reads_back
returns-clause-reads_back c =
    let k = c.into.ensures in
    let p = c.into-2.ensures in
    let t = c.to_be_bytes.ensures in
    let u = c.to_be_bytes-2.ensures in
    λ b a. simp (k, p, t, u) (start_again b a c.args.self (omega arith) (omega arith))
