use Rattle.std.proofs.Common.{◌≡◌, false, length}
use Rattle.schedule.specs.Cuts.{lines_in}
use Rattle.schedule.specs.Misfits.{misfit_at}
use Rattle.schedule.proofs.misfit.find_misfit.Given as goal

abbrev pub invariant-loop-line : goal.invariant-loop-line
invariant-loop-line l =
    misfit_at l.number false 0 (lines_in l.text) ≡ misfit_at l.number l.started l.lines.number (lines_in l.lines.rest.now)

abbrev pub decreases-loop-line : goal.decreases-loop-line
decreases-loop-line l = length (lines_in l.lines.rest.now)
