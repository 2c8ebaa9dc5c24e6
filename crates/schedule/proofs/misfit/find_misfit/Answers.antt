use Rattle.std.proofs.Common.{sym, ap, ◌∙◌}
use Rattle.schedule.specs.Cuts.{lines_in, line_words}
use Rattle.schedule.specs.Maps.{has_words}
use Rattle.schedule.specs.Misfits.{misfit_at}
use Rattle.schedule.proofs.Complained.{complaints_explained}
use Rattle.schedule.proofs.Explained.{misfits_explain}
use Rattle.schedule.proofs.Misplaced.{line_reached, line_passed, no_line_left, or_true, or_false}
use Rattle.schedule.proofs.misfit.find_misfit.Goals as goal

pub returns-then-number : goal.returns-then-number
returns-then-number c =
    let l = c.loop-line.lines in
    let m = c.next.new.self in
    let h = c.in-Some.ensures.steps in
    record {
      first = c.line_misfit.ensures
          ∙ sym (line_reached c.args.number l.number m.number c.loop-line.started (lines_in l.rest.now) (lines_in m.rest.now) c.in-Some.line.now h.0 h.1 (sym c.number.ensures.number ∙ c.if-number.true))
          ∙ sym c.loop-line.invariant;
      explains = misfits_explain;
      complaints = complaints_explained;
    }

pub loop-line-preserved-then-started : goal.loop-line-preserved-then-started
loop-line-preserved-then-started c =
    let l = c.loop-line.lines in
    let m = c.next.new.self in
    let h = c.in-Some.ensures.steps in
    c.loop-line.invariant
    ∙ line_passed c.args.number l.number m.number c.loop-line.started (lines_in l.rest.now) (lines_in m.rest.now) c.in-Some.line.now h.0 h.1 (λ e. c.if-number.false (c.number.ensures.number ∙ e))
    ∙ ap (λ b. misfit_at c.args.number b m.number (lines_in m.rest.now)) (or_true c.loop-line.started c.if-started.true (has_words (line_words c.in-Some.line.now)))

pub loop-line-preserved : goal.loop-line-preserved
loop-line-preserved c =
    let l = c.loop-line.lines in
    let m = c.next.new.self in
    let h = c.in-Some.ensures.steps in
    c.loop-line.invariant
    ∙ line_passed c.args.number l.number m.number c.loop-line.started (lines_in l.rest.now) (lines_in m.rest.now) c.in-Some.line.now h.0 h.1 (λ e. c.if-number.false (c.number.ensures.number ∙ e))
    ∙ ap (λ b. misfit_at c.args.number b m.number (lines_in m.rest.now)) (or_false c.loop-line.started c.if-started.false _ _ c.has_words-started.ensures)

pub returns : goal.returns
returns c =
    let l = c.loop-line.lines in
    record {
      first = sym (c.loop-line.invariant ∙ no_line_left c.args.number c.loop-line.started l.number (lines_in l.rest.now) c.in_default.ensures.steps.0);
      explains = misfits_explain;
      complaints = complaints_explained;
    }
