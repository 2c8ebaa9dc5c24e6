use Rattle.std.proofs.Common.{◌≡◌, length}
use Rattle.slots.specs.Slots.{items, spare, Extends}
use Rattle.orders.specs.declared.start.Start.{Start}
use Rattle.schedule.specs.Cuts.{lines_in}
use Rattle.schedule.specs.Texts.{order_lines_from}
use Rattle.schedule.proofs.read.read_orders.Given as goal

abbrev pub invariant-loop-text : goal.invariant-loop-text
invariant-loop-text l =
    ((s : Start) → order_lines_from s l.initial.lines.number (lines_in l.initial.lines.rest.now) (items l.initial.list) (spare l.initial.list) ≡ order_lines_from s l.lines.number (lines_in l.lines.rest.now) (items l.list) (spare l.list))
    × Extends l.initial.list l.list

abbrev pub decreases-loop-text : goal.decreases-loop-text
decreases-loop-text l = length (lines_in l.lines.rest.now)
