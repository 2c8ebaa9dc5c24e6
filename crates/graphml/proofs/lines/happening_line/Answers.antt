use Rattle.std.proofs.Common.{ap, ◌∙◌, arith, length-append}
use Rattle.text.specs.Lines.{line_with}
use Rattle.text.proofs.Lines.{onto}
use Rattle.graphml.specs.Texts.{happening_line}
use Rattle.graphml.proofs.Words.{number_le, word_le}
use Rattle.graphml.proofs.lines.happening_line.Goals as goal

pub returns-clause-line : goal.returns-clause-line
unfolding happening_line
returns-clause-line c =
    let a = number_le c.args.place (omega arith) in
    let b = number_le c.args.h.now.tick (omega arith) in
    let w = word_le c.args.h.now.kind in
    let one = onto _ c.new-l.ensures c.add.ensures (omega arith) in
    let two = onto _ one c.number.ensures.line (omega arith) in
    let three = onto _ two c.add-2.ensures (simp length-append (omega arith)) in
    let four = onto _ three c.number-2.ensures.line (simp length-append (omega arith)) in
    let five = onto _ four c.add-3.ensures (simp length-append (omega arith)) in
    let six = onto _ five (c.add-4.ensures ∙ ap (λ t. line_with c.add-3.new.self t) (c.as_bytes.ensures.value ∙ c.word.ensures)) (simp length-append (omega arith)) in
    onto _ six c.add-5.ensures (simp length-append (omega arith))
