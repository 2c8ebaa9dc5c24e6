use Rattle.std.proofs.Common.{arith}
use Rattle.orders.proofs.Rereading.{order_again}
use Rattle.orders.proofs.order.Order.to_bytes.Goals as goal

pub returns-clause-reads_back : goal.returns-clause-reads_back
returns-clause-reads_back c =
    let k = c.into.ensures in
    let t = c.to_be_bytes.ensures in
    λ p q. simp (k, t) (order_again p q c.args.self (omega arith))
