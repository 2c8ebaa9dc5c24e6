use Rattle.std.proofs.Common.{arith, length-append}
use Rattle.text.proofs.Lines.{onto}
use Rattle.graphml.specs.Texts.{node_line}
use Rattle.graphml.proofs.Words.{number_le}
use Rattle.graphml.proofs.lines.node_line.Goals as goal

pub returns : goal.returns
unfolding node_line
returns c =
    let i = number_le c.args.party (omega arith) in
    let one = onto _ c.new-l.ensures c.add.ensures (omega arith) in
    let two = onto _ one c.number.ensures.line (omega arith) in
    onto _ two c.add-2.ensures (simp length-append (omega arith))
