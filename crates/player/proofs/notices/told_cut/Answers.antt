use Rattle.std.proofs.Common.{sym, ap, ◌∙◌, arith}
use Rattle.text.proofs.Lines.{onto}
use Rattle.player.specs.Notices.{cut_line}
use Rattle.player.proofs.notices.told_cut.Goals as goal

pub returns-then-cut : goal.returns-then-cut
unfolding cut_line
returns-then-cut c = onto _ c.new-line.ensures c.add.ensures (omega arith) ∙ ap cut_line (sym c.if-cut.true)

pub returns-else-cut : goal.returns-else-cut
unfolding cut_line
returns-else-cut c = c.new-line.ensures ∙ ap cut_line (sym c.if-cut.false)
