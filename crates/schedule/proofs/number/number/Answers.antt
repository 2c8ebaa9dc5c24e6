use Rattle.std.proofs.Common.{sym, arith}
use Rattle.std.proofs.lemmas.Bool.Decides.{nat_tests}
use Rattle.schedule.proofs.Numbers.{begun, no_digit, digit, all_read}
use Rattle.schedule.proofs.number.number.Goals as goal

pub loop-byte-init : goal.loop-byte-init
loop-byte-init c = (omega arith, begun c.args.max c.args.word.now)

pub returns-then-not-is_ascii_digit : goal.returns-then-not-is_ascii_digit
returns-then-not-is_ascii_digit c =
    let l = c.loop-byte in
    no_digit c.args.max c.args.word.now l.value l.byte-index _ l.invariant.1 (omega arith) (sym c.if-not-is_ascii_digit.ensures.value)

pub loop-byte-preserved : goal.loop-byte-preserved
loop-byte-preserved c =
    let l = c.loop-byte in
    (omega arith, digit c.args.max c.args.word.now l.value l.byte-index _ l.invariant.1 c.min-value.result (omega arith) (sym c.if-not-is_ascii_digit.ensures.value) c.min-value.ensures)

pub returns-then-value-over : goal.returns-then-value-over
returns-then-value-over c =
    let l = c.loop-byte in
    let e = all_read c.args.max c.args.word.now l.value l.byte-index _ l.invariant.1 (omega arith) in
    grind (arith, nat_tests)

pub returns : goal.returns
returns c =
    let l = c.loop-byte in
    let e = all_read c.args.max c.args.word.now l.value l.byte-index _ l.invariant.1 (omega arith) in
    grind (arith, nat_tests)
