use Rattle.std.proofs.Common.{◌≡◌, ◌+◌, Ok, Err, sym, ap, ◌∙◌, arith}
use Rattle.std.proofs.lemmas.Result.{err_from_is_err_and}
use Rattle.schedule.specs.declared.complaint.Cause.TheVariants.{NoStart}
use Rattle.schedule.specs.Cuts.{lines_in, line_words}
use Rattle.schedule.specs.Records.{start_in}
use Rattle.schedule.specs.Texts.{reading_end, start_lines_from, order_lines_from}
use Rattle.schedule.specs.Steps.{past_start, at_line}
use Rattle.schedule.proofs.Walks.{start_asked, start_lacking, start_found, no_words, wrong_word}
use Rattle.schedule.proofs.read.read_start.Goals as goal

pub loop-text-preserved : goal.loop-text-preserved
loop-text-preserved c =
    let l = c.loop-text in
    let m = c.next.new.self in
    let h = c.in-Some.ensures.steps in
    let e = ap Ok (sym c.in_default-2.is) ∙ c.in_ok-start.ensures ∙ ap (λ n. at_line n (start_in (line_words c.in-Some.text.now))) c.number.ensures.number in
    λ xs ys. l.invariant xs ys ∙ start_asked l.lines.number m.number (lines_in l.lines.rest.now) (lines_in m.rest.now) c.in-Some.text.now xs ys h.0 h.1
    ∙ no_words m.number (start_lines_from m.number (lines_in m.rest.now) xs ys) (λ s. order_lines_from s m.number (lines_in m.rest.now) xs ys) xs ys (start_in (line_words c.in-Some.text.now)) e

pub returns-in-Some-2 : goal.returns-in-Some-2
returns-in-Some-2 c =
    let l = c.loop-text in
    let m = c.next.new.self in
    let h = c.in-Some.ensures.steps in
    let e = ap Ok (sym c.in-Some-2.is) ∙ c.in_ok-start.ensures ∙ ap (λ n. at_line n (start_in (line_words c.in-Some.text.now))) c.number.ensures.number in
    λ xs ys. l.invariant xs ys ∙ start_asked l.lines.number m.number (lines_in l.lines.rest.now) (lines_in m.rest.now) c.in-Some.text.now xs ys h.0 h.1
    ∙ start_found m.number (start_lines_from m.number (lines_in m.rest.now) xs ys) (λ s. order_lines_from s m.number (lines_in m.rest.now) xs ys) xs ys (start_in (line_words c.in-Some.text.now)) c.in-Some-2.start e

pub returns-in_err-start : goal.returns-in_err-start
returns-in_err-start c =
    let l = c.loop-text in
    let m = c.next.new.self in
    let h = c.in-Some.ensures.steps in
    let p = err_from_is_err_and c.from_residual.result c.from_residual.ensures.1 in
    let e = c.in_err-start.ensures ∙ ap (λ n. at_line n (start_in (line_words c.in-Some.text.now))) c.number.ensures.number in
    λ xs ys. l.invariant xs ys ∙ start_asked l.lines.number m.number (lines_in l.lines.rest.now) (lines_in m.rest.now) c.in-Some.text.now xs ys h.0 h.1
    ∙ wrong_word m.number (start_lines_from m.number (lines_in m.rest.now) xs ys) (λ s. order_lines_from s m.number (lines_in m.rest.now) xs ys) xs ys (start_in (line_words c.in-Some.text.now)) _ e
    ∙ sym (ap (λ r. past_start r m.number (lines_in m.rest.now) xs ys) (p.1 ∙ ap Err p.2))

pub returns : goal.returns
returns c =
    let l = c.loop-text in
    let n : l.lines.number + 1 ≡ c.number-2.result + 1 = let h = c.in_default.ensures.steps.2 in omega arith in
    λ xs ys. l.invariant xs ys ∙ start_lacking l.lines.number (lines_in l.lines.rest.now) xs ys c.in_default.ensures.steps.0
    ∙ ap (λ n. reading_end (Err NoStart) n xs ys) n
