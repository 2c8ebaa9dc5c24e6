use Rattle.std.proofs.Common.{sym, arith}
use Rattle.schedule.specs.Cuts.{words_in}
use Rattle.schedule.proofs.Taking.{due_le}
use Rattle.schedule.proofs.words.Words.byte.Goals as goal

pub overflow_cast-result : goal.overflow_cast-result
overflow_cast-result c =
    let le = due_le 255 (words_in c.args.self.now.rest.now) c.in_ok-number.field-0 (sym c.in_ok-number.ensures.answer) in
    omega arith
