use Rattle.std.proofs.Common.{◌≡◌, ◌+◌, Ok, Err, sym, refl, ap, ◌∙◌, arith, rules}
use Rattle.std.proofs.lemmas.Result.{err_from_is_err_and, IfOk-from_err}
use Rattle.slots.specs.Slots.{items, spare}
use Rattle.schedule.specs.Cuts.{lines_in}
use Rattle.schedule.specs.Texts.{reading_of}
use Rattle.schedule.proofs.Rendered.{rendered_texts}
use Rattle.schedule.proofs.Whole.{begun, went_on, slots_hold, complained, made, reads_sound}
use Rattle.schedule.proofs.Example.{by_hand}
use Rattle.schedule.proofs.compose.compose.Goals as goal

pub returns-in_err-start : goal.returns-in_err-start
returns-in_err-start c =
    let text = c.args.text.now in
    let slots = c.args.order_slots.now in
    let new = c.new-lines.ensures in
    let list = c.new-list.ensures in
    let m = c.read_start.new.lines in
    let f = c.in_err-start.field-0.0 in
    let p = err_from_is_err_and c.from_residual.result c.from_residual.ensures.1 in
    let e = begun text c.new-lines.result.rest.now c.new-lines.result.number slots (Err f) m.number (lines_in m.rest.now) new.text new.number c.in_err-start.ensures in
    let q = complained (reading_of text slots) f _ _ c.args.out.now e in
    let tie = list.lent in
    record {
      answer = p.1 ∙ ap Err p.2 ∙ q.0;
      output = q.1;
      slots = slots_hold (reading_of text slots) _ c.new-list.result slots _ e (sym list.empty) (sym list.spare) (search rules) (reads_sound text slots);
      within = IfOk-from_err c.from_residual.result _ c.from_residual.ensures.0;
      loads = IfOk-from_err c.from_residual.result _ c.from_residual.ensures.0;
      reads_back = rendered_texts;
      by_hand = by_hand;
    }

pub returns-in_err-read_orders : goal.returns-in_err-read_orders
returns-in_err-read_orders c =
    let text = c.args.text.now in
    let slots = c.args.order_slots.now in
    let new = c.new-lines.ensures in
    let list = c.new-list.ensures in
    let m = c.read_start.new.lines in
    let s = c.in_ok-start.start in
    let m2 = c.read_orders.new.lines in
    let l = c.read_orders.new.list in
    let a = begun text c.new-lines.result.rest.now c.new-lines.result.number slots (Ok s) m.number (lines_in m.rest.now) new.text new.number c.in_ok-start.ensures in
    let f = c.in_err-read_orders.field-0.0 in
    let h = c.in_err-read_orders.ensures in
    let fr = c.from_residual-in_err-read_orders in
    let p = err_from_is_err_and fr.result fr.ensures.1 in
    let e = a ∙ went_on s m.number (lines_in m.rest.now) (items c.new-list.result) (spare c.new-list.result) slots _ list.empty list.spare (h.read s) in
    let q = complained (reading_of text slots) f _ _ c.args.out.now e in
    let tie = h.extends.lent ∙ list.lent in
    record {
      answer = p.1 ∙ ap Err p.2 ∙ q.0;
      output = q.1;
      slots = slots_hold (reading_of text slots) _ l slots _ e refl refl (search rules) (reads_sound text slots);
      within = IfOk-from_err fr.result _ fr.ensures.0;
      loads = IfOk-from_err fr.result _ fr.ensures.0;
      reads_back = rendered_texts;
      by_hand = by_hand;
    }

pub returns : goal.returns
returns c =
    let text = c.args.text.now in
    let slots = c.args.order_slots.now in
    let new = c.new-lines.ensures in
    let list = c.new-list.ensures in
    let m = c.read_start.new.lines in
    let s = c.in_ok-start.start in
    let m2 = c.read_orders.new.lines in
    let l = c.read_orders.new.list in
    let a = begun text c.new-lines.result.rest.now c.new-lines.result.number slots (Ok s) m.number (lines_in m.rest.now) new.text new.number c.in_ok-start.ensures in
    let h = c.in_ok-read_orders.ensures in
    let e = a ∙ went_on s m.number (lines_in m.rest.now) (items c.new-list.result) (spare c.new-list.result) slots _ list.empty list.spare (h.read s) in
    let line : c.number.result + 1 ≡ m2.number + 1 = let n = c.number.ensures.number in omega arith in
    let d = made (reading_of text slots) s m2.number (items l) (spare l) c.as_slice.result.now slots c.args.out.now c.write.new.out e c.as_slice.ensures (reads_sound text slots) (c.number.result + 1) line
    c.write.result c.ok_or.result c.write.ensures.answer c.write.ensures.after c.ok_or.ensures.value in
    let tie = h.extends.lent ∙ list.lent in
    record {
      answer = d.answer;
      output = d.output;
      slots = slots_hold (reading_of text slots) _ l slots _ e refl refl (search rules) (reads_sound text slots);
      within = d.within;
      loads = d.loads;
      reads_back = rendered_texts;
      by_hand = by_hand;
    }
