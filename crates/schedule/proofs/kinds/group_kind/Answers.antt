use Rattle.std.proofs.Common.{codes, rules, arith}
use Rattle.std.proofs.lemmas.Slice.Eq.{text_from_reads}
use Rattle.schedule.specs.Words.{group_word, is_name}
use Rattle.schedule.proofs.kinds.group_kind.Goals as goal

pub returns-in-closed : goal.returns-in-closed
unfolding group_word is_name
returns-in-closed c = rw (text_from_reads c.args.word.now (codes "closed") (omega arith) (search rules))

pub returns-in-expanding : goal.returns-in-expanding
unfolding group_word is_name
returns-in-expanding c = rw (text_from_reads c.args.word.now (codes "expanding") (omega arith) (search rules))

pub returns-in-dynamic : goal.returns-in-dynamic
unfolding group_word is_name
returns-in-dynamic c = rw (text_from_reads c.args.word.now (codes "dynamic") (omega arith) (search rules))
