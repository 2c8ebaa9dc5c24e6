use Rattle.std.proofs.Common.{decimal, ap, ◌∙◌, arith, length-append}
use Rattle.text.specs.Lines.{line_with}
use Rattle.text.proofs.Lines.{onto}
use Rattle.schedule.specs.Causes.{complaint_number}
use Rattle.schedule.specs.Notices.{cause_words, notice_line}
use Rattle.schedule.proofs.Lengths.{number_long, words_long}
use Rattle.schedule.proofs.notice.notice_line.Goals as goal

pub returns : goal.returns
unfolding notice_line
returns c =
    let e = c.args.complaint.cause in
    let a = number_long c.args.complaint.line (omega arith) in
    let b = words_long e in
    let n = number_long (complaint_number e) (omega (arith, c.number-2.ensures)) in
    let one = onto _ c.new-line.ensures c.add.ensures (omega arith) in
    let two = onto _ one c.number.ensures.line (omega arith) in
    let three = onto _ two c.add-2.ensures (simp length-append (omega arith)) in
    let four = onto _ three (c.number-3.ensures.line ∙ ap (λ k. line_with c.add-2.new.self (decimal k)) c.number-2.ensures) (simp length-append (omega arith)) in
    let five = onto _ four c.add-3.ensures (simp length-append (omega arith)) in
    let six = onto (cause_words e) five (c.add-4.ensures ∙ ap (λ t. line_with c.add-3.new.self t) c.cause_words.ensures) (simp length-append (omega arith)) in
    onto _ six c.add-5.ensures (simp length-append (omega arith))
