use Rattle.std.proofs.Common.{Ok, Err, sym, ap, ◌∙◌}
use Rattle.std.proofs.lemmas.Result.{err_from_is_err_and}
use Rattle.slots.specs.Slots.{items, spare}
use Rattle.slots.proofs.Growing.{extends_trans}
use Rattle.schedule.specs.Cuts.{lines_in, line_words}
use Rattle.schedule.specs.Records.{order_in}
use Rattle.schedule.specs.Texts.{reading_end, order_lines_from, order_reading}
use Rattle.schedule.specs.Steps.{past_orders}
use Rattle.schedule.proofs.Walks.{order_asked, orders_over}
use Rattle.schedule.proofs.read.read_orders.Goals as goal

pub loop-text-preserved : goal.loop-text-preserved
loop-text-preserved c =
    let l = c.loop-text in
    let m = c.next.new.self in
    let h = c.in-Some.ensures.steps in
    let a = c.in_ok-add_order.ensures in (
      λ s. l.invariant.0 s ∙ order_asked s l.lines.number m.number (lines_in l.lines.rest.now) (lines_in m.rest.now) c.in-Some.text.now (items l.list) (spare l.list) h.0 h.1
          ∙ ap (λ n. order_reading n (order_lines_from s m.number (lines_in m.rest.now)) (items l.list) (spare l.list) (order_in (line_words c.in-Some.text.now))) (sym c.number.ensures.number)
          ∙ a.met (order_lines_from s m.number (lines_in m.rest.now)),
      extends_trans c.args.list.now l.list c.add_order.new.list l.invariant.1 a.extends,
    )

pub returns-in_err-add_order : goal.returns-in_err-add_order
returns-in_err-add_order c =
    let l = c.loop-text in
    let m = c.next.new.self in
    let h = c.in-Some.ensures.steps in
    let a = c.in_err-add_order.ensures in
    let p = err_from_is_err_and c.from_residual.result c.from_residual.ensures.1 in
    record {
      read =
          λ s. l.invariant.0 s ∙ order_asked s l.lines.number m.number (lines_in l.lines.rest.now) (lines_in m.rest.now) c.in-Some.text.now (items l.list) (spare l.list) h.0 h.1
          ∙ ap (λ n. order_reading n (order_lines_from s m.number (lines_in m.rest.now)) (items l.list) (spare l.list) (order_in (line_words c.in-Some.text.now))) (sym c.number.ensures.number)
          ∙ a.met (order_lines_from s m.number (lines_in m.rest.now))
          ∙ sym (ap (λ r. past_orders s r m.number (items c.add_order.new.list) (spare c.add_order.new.list)) (p.1 ∙ ap Err p.2));
      extends = extends_trans c.args.list.now l.list c.add_order.new.list l.invariant.1 a.extends;
    }

pub returns : goal.returns
returns c =
    let l = c.loop-text in
    let h = c.in_default.ensures.steps in
    record {
      read =
          λ s. l.invariant.0 s ∙ orders_over s l.lines.number (lines_in l.lines.rest.now) (items l.list) (spare l.list) h.0
          ∙ ap (λ n. reading_end (Ok s) n (items l.list) (spare l.list)) (sym h.2);
      extends = l.invariant.1;
    }
