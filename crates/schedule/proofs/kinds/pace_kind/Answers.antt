use Rattle.std.proofs.Common.{codes, rules, arith}
use Rattle.std.proofs.lemmas.Slice.Eq.{text_from_reads}
use Rattle.schedule.specs.Words.{pace_word, is_name}
use Rattle.schedule.proofs.kinds.pace_kind.Goals as goal

pub returns-in-halving : goal.returns-in-halving
unfolding pace_word is_name
returns-in-halving c = rw (text_from_reads c.args.word.now (codes "halving") (omega arith) (search rules))

pub returns-in-116 : goal.returns-in-116
unfolding pace_word is_name
returns-in-116 c = rw (text_from_reads c.args.word.now (codes "two-phase") (omega arith) (search rules))
