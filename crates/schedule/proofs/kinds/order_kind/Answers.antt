use Rattle.std.proofs.Common.{codes, rules, arith}
use Rattle.std.proofs.lemmas.Slice.Eq.{text_from_reads}
use Rattle.schedule.specs.Words.{order_word, is_name}
use Rattle.schedule.proofs.kinds.order_kind.Goals as goal

pub returns-in-deliver : goal.returns-in-deliver
unfolding order_word is_name
returns-in-deliver c = rw (text_from_reads c.args.word.now (codes "deliver") (omega arith) (search rules))

pub returns-in-lose : goal.returns-in-lose
unfolding order_word is_name
returns-in-lose c = rw (text_from_reads c.args.word.now (codes "lose") (omega arith) (search rules))

pub returns-in-crash : goal.returns-in-crash
unfolding order_word is_name
returns-in-crash c = rw (text_from_reads c.args.word.now (codes "crash") (omega arith) (search rules))

pub returns-in-join : goal.returns-in-join
unfolding order_word is_name
returns-in-join c = rw (text_from_reads c.args.word.now (codes "join") (omega arith) (search rules))

pub returns-in-leave : goal.returns-in-leave
unfolding order_word is_name
returns-in-leave c = rw (text_from_reads c.args.word.now (codes "leave") (omega arith) (search rules))

pub returns-in-wait : goal.returns-in-wait
unfolding order_word is_name
returns-in-wait c = rw (text_from_reads c.args.word.now (codes "wait") (omega arith) (search rules))
