use Rattle.std.proofs.Common.{sym, ap, ◌∙◌}
use Rattle.player.specs.Notices.{notice_lines}
use Rattle.player.proofs.notices.notice_lines.Goals as goal

pub returns-in-Err : goal.returns-in-Err
returns-in-Err c = c.refused_line.ensures ∙ ap notice_lines (sym c.in-Err.is)

pub returns-in-Ok : goal.returns-in-Ok
returns-in-Ok c = c.told.ensures ∙ ap notice_lines (sym c.in-Ok.is)
