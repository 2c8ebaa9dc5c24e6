use Rattle.std.proofs.Common.{◌∷◌, length, sym, ap, ◌∙◌, rules}
use Rattle.schedule.specs.Cuts.{lines_in}
use Rattle.schedule.specs.Maps.{worded}
use Rattle.schedule.proofs.Mapped.{one_record, one_passed, no_record}
use Rattle.schedule.proofs.map.RecordLinesIterator.next.Goals as goal

pub returns-then-has_words-clause-steps : goal.returns-then-has_words-clause-steps
returns-then-has_words-clause-steps c =
    let l = c.loop-line.self.lines in
    let m = c.next.new.self in
    let h = c.in-Some.ensures.steps in
    sym c.loop-line.invariant
    ∙ one_record l.number m.number (lines_in l.rest.now) (lines_in m.rest.now) c.in-Some.line.now h.0 h.1 (sym c.if-has_words.ensures)
    ∙ ap (λ n. n ∷ worded m.number (lines_in m.rest.now)) (sym c.number.ensures.number)

pub returns-then-has_words-clause-goes : goal.returns-then-has_words-clause-goes
returns-then-has_words-clause-goes c = let fewer = ap length (returns-then-has_words-clause-steps c) in search rules

pub loop-line-preserved : goal.loop-line-preserved
loop-line-preserved c =
    let l = c.loop-line.self.lines in
    let m = c.next.new.self in
    let h = c.in-Some.ensures.steps in
    sym (one_passed l.number m.number (lines_in l.rest.now) (lines_in m.rest.now) c.in-Some.line.now h.0 h.1 (sym c.if-has_words.ensures))
    ∙ c.loop-line.invariant

pub returns-clause-steps : goal.returns-clause-steps
returns-clause-steps c =
    let l = c.loop-line.self.lines in
    let m = c.next.new.self in
    let h = c.in_default.ensures.steps in
    (sym c.loop-line.invariant ∙ no_record l.number (lines_in l.rest.now) h.0, no_record m.number (lines_in m.rest.now) h.1)
