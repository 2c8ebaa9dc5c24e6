use Rattle.std.proofs.Common.{◌≤◌, length, sym, arith}
use Rattle.std.proofs.lemmas.List.{length-take-le, take_all}
use Rattle.schedule.proofs.misfit_notice.shown.Goals as goal

pub slice_bounds-result-end : goal.slice_bounds-result-end
slice_bounds-result-end c =
    let long : 40 ≤ length c.args.word.now = let t = c.if-word-gt-SHOWN.true in omega arith in
    sym (length-take-le 40 c.args.word.now long)

pub returns-else-word-gt-SHOWN : goal.returns-else-word-gt-SHOWN
returns-else-word-gt-SHOWN c =
    let short : length c.args.word.now ≤ 40 = let t = c.if-word-gt-SHOWN.false in omega arith in
    sym (take_all 40 c.args.word.now short)
