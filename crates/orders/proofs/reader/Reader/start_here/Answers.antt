use Rattle.std.proofs.lemmas.Result.{err_from_is_err_and}
use Rattle.orders.proofs.Records.{start_read, pace_unknown}
use Rattle.orders.proofs.reader.Reader.start_here.Goals as goal

pub returns-in_err-try_into-2 : goal.returns-in_err-try_into-2
returns-in_err-try_into-2 c =
    let p = err_from_is_err_and c.from_residual-in_err-try_into-2.result c.from_residual-in_err-try_into-2.ensures.1 in
    rw (p.1, p.2) (pace_unknown c.args.self.now.bytes.now c.in_ok-record.record c.args.self.now.at _ _ _ c.in_ok-record.ensures c.in_ok-try_into.ensures _ c.in_err-try_into-2.ensures)

pub returns : goal.returns
returns c =
    start_read c.args.self.now.bytes.now c.in_ok-record.record c.args.self.now.at _ _ _ c.in_ok-record.ensures c.in_ok-try_into.ensures _ _ _
    c.in_ok-try_into-2.ensures c.from_be_bytes.ensures c.from_be_bytes-2.ensures
