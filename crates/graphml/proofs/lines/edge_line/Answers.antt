use Rattle.std.proofs.Common.{arith, length-append}
use Rattle.text.proofs.Lines.{onto}
use Rattle.graphml.specs.Texts.{edge_line}
use Rattle.graphml.proofs.Words.{number_le}
use Rattle.graphml.proofs.lines.edge_line.Goals as goal

pub returns : goal.returns
unfolding edge_line
returns c =
    let a = number_le c.args.source (omega arith) in
    let b = number_le c.args.target (omega arith) in
    let one = onto _ c.new-l.ensures c.add.ensures (omega arith) in
    let two = onto _ one c.number.ensures.line (omega arith) in
    let three = onto _ two c.add-2.ensures (simp length-append (omega arith)) in
    let four = onto _ three c.number-2.ensures.line (simp length-append (omega arith)) in
    onto _ four c.add-3.ensures (simp length-append (omega arith))
