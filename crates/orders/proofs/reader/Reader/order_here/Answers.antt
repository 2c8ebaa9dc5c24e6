use Rattle.orders.proofs.Records.{order_read}
use Rattle.orders.proofs.reader.Reader.order_here.Goals as goal

pub returns : goal.returns
returns c = order_read c.args.self.now.bytes.now c.in_ok-record.record c.args.self.now.at _ _ _ c.if-self.false c.in_ok-record.ensures c.in_ok-try_into.ensures c.from_be_bytes.ensures
