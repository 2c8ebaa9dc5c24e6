use Rattle.std.proofs.Common.{◌≡◌, List, length}
use Rattle.orders.specs.declared.order.Order.{Order}
use Rattle.schedule.specs.Cuts.{lines_in}
use Rattle.schedule.specs.Texts.{start_lines_from}
use Rattle.schedule.proofs.read.read_start.Given as goal

abbrev pub invariant-loop-text : goal.invariant-loop-text
invariant-loop-text l =
    (xs ys : List Order) → start_lines_from l.initial.lines.number (lines_in l.initial.lines.rest.now) xs ys ≡ start_lines_from l.lines.number (lines_in l.lines.rest.now) xs ys

abbrev pub decreases-loop-text : goal.decreases-loop-text
decreases-loop-text l = length (lines_in l.lines.rest.now)
