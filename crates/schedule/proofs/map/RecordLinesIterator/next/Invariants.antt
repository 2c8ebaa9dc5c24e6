use Rattle.std.proofs.Common.{◌≡◌, length}
use Rattle.schedule.specs.Cuts.{lines_in}
use Rattle.schedule.specs.Maps.{all_lines_behind}
use Rattle.schedule.proofs.map.RecordLinesIterator.next.Given as goal

abbrev pub invariant-loop-line : goal.invariant-loop-line
invariant-loop-line l = all_lines_behind l.self.lines.number l.self.lines.rest.now ≡ all_lines_behind l.initial.self.lines.number l.initial.self.lines.rest.now

abbrev pub decreases-loop-line : goal.decreases-loop-line
decreases-loop-line l = length (lines_in l.self.lines.rest.now)
