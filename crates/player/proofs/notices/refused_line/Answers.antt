use Rattle.std.proofs.Common.{arith, length-append}
use Rattle.text.proofs.Lines.{onto}
use Rattle.player.proofs.Lengths.{number_le}
use Rattle.player.specs.Notices.{refused_line}
use Rattle.player.proofs.notices.refused_line.Goals as goal

pub returns : goal.returns
unfolding refused_line
returns c =
    let a = number_le c.args.file.byte (omega arith) in
    let b = number_le c.args.file.number (omega arith) in
    let one = onto _ c.new-line.ensures c.add.ensures (omega arith) in
    let two = onto _ one c.number.ensures.line (omega arith) in
    let three = onto _ two c.add-2.ensures (simp length-append (omega arith)) in
    let four = onto _ three c.number-2.ensures.line (simp length-append (omega arith)) in
    onto _ four c.add-3.ensures (simp length-append (omega arith))
