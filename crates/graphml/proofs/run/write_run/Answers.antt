use Rattle.std.proofs.Common.{◌≡◌, ◌-◌, ◌≤◌, length, sym, ap, ◌∙◌, subst, arith, rules}
use Rattle.graphml.specs.Numbers.{Fits}
use Rattle.graphml.specs.Writer.{Writer}
use Rattle.graphml.specs.Body.{body}
use Rattle.graphml.specs.Answer.{in_frame, part, over, run_bytes}
use Rattle.graphml.proofs.Whole.{finished, answered, left_as_written, closes, whole_text, shown}
use Rattle.graphml.proofs.run.write_run.Goals as goal
use Rattle.markup.proofs.Ending.{ends_at}
use Rattle.markup.specs.Cut.{all_fits, fitting_part}
use Rattle.markup.specs.Forests.{Each}
use Rattle.graphml.specs.Elements.{spelling}

pub returns : goal.returns
returns c =
    let out = c.args.out.now in
    let log = c.args.log.now in
    let n = c.args.parties in
    let h : 275 ≤ length out = omega arith in
    let f = finished out log n h c.open-run.ensures.after c.write_body-written.ensures.after c.close.ensures in
    let told = c.is_ok-whole.ensures.value ∙ c.write_body-written.ensures.whole in
    let all = sym (told ∙ ap (λ x. all_fits spelling x.out.room (body log n)) c.open-run.ensures.after) in
    let end : c.close.new.out.bytes.now ≡ over (in_frame (part log n (length out))) out = f.bytes in
    let left : c.close.new.out.bytes.now ≡ run_bytes log n out = left_as_written out log n h end in
    let same = f.same in
    let numbers : Each Fits (part log n (length out)) = subst (λ (s : Writer). Each Fits (fitting_part spelling s.out.room (body log n))) c.open-run.ensures.after c.write_body-written.ensures.numbers in
    record {
      answer = answered out log n h c.open-run.ensures.after told f;
      bytes = search rules;
      closes = closes out log n h (search rules) f.at;
      cut = λ e. ends_at spelling (length out - 275) (body log n) (all ∙ e);
      whole = λ e. whole_text out log n h (all ∙ e) (search rules) f.at;
      shown = shown out log n h (omega arith) numbers (search rules) f (sym all);
    }
