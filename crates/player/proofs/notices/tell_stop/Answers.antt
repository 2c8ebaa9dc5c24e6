use Rattle.std.proofs.Common.{decimal, refl, ap, ◌∙◌, append_assoc, arith, length-append}
use Rattle.text.specs.Lines.{line_with}
use Rattle.text.proofs.Lines.{onto}
use Rattle.player.specs.Playing.{fault_number}
use Rattle.player.specs.Notices.{stopped_line}
use Rattle.player.proofs.Lengths.{number_le}
use Rattle.player.proofs.notices.tell_stop.Goals as goal

pub returns : goal.returns
unfolding stopped_line
returns c =
    let x = c.args.stop in
    let p = c.requires in
    let a = number_le x.order (omega arith) in
    let b = number_le (fault_number x.fault) (omega (arith, c.number-2.ensures)) in
    let one = onto _ refl c.add.ensures (omega arith) in
    let two = onto _ one c.number.ensures.line (simp length-append (omega arith)) in
    let three = onto _ two c.add-2.ensures (simp length-append (omega arith)) in
    let four = onto _ three (c.number-3.ensures.line ∙ ap (λ n. line_with c.add-2.new.self (decimal n)) c.number-2.ensures) (simp length-append (omega arith)) in
    onto _ four c.add-3.ensures (simp length-append (omega arith)) ∙ simp append_assoc
