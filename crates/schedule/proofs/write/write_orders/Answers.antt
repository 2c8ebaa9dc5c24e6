use Rattle.std.proofs.Common.{◌+◌, length, sym, ap, ◌∙◌, arith}
use Rattle.std.specs.List.{flat_map}
use Rattle.std.proofs.lemmas.List.{take_all}
use Rattle.text.specs.Bytes.{with_text_at}
use Rattle.text.proofs.Placed.{with_text_at-nil}
use Rattle.orders.specs.Writing.{order_bytes}
use Rattle.schedule.proofs.Filing.{one_order}
use Rattle.schedule.proofs.write.write_orders.Goals as goal

pub loop-order-init : goal.loop-order-init
loop-order-init c = (sym (with_text_at-nil c.args.out.now c.args.from), omega arith)

pub loop-order-preserved : goal.loop-order-preserved
loop-order-preserved c =
    let l = c.loop-order in
    one_order c.args.out.now c.args.from c.args.orders.now l.order-index _ l.out c.put-at.new.out l.at c.put-at.result c.to_bytes.result
    c.loop-order-test.true c.to_bytes.ensures.written c.requires l.auto.out l.invariant c.put-at.ensures.after c.put-at.ensures.end

pub returns : goal.returns
returns c =
    let l = c.loop-order in
    let e = take_all l.order-index c.args.orders.now (omega arith) in
    record {
      after = l.invariant.0 ∙ ap (λ z. with_text_at c.args.out.now c.args.from (flat_map order_bytes z)) e;
      end = l.invariant.1 ∙ ap (λ z. c.args.from + length (flat_map order_bytes z)) e;
    }
