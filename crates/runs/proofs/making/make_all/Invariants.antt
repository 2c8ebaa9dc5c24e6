use Rattle.runs.proofs.Stepping.{DoesFirst}
use Rattle.runs.proofs.making.make_all.Given as goal

abbrev pub invariant-loop-step : goal.invariant-loop-step
invariant-loop-step g l =
    DoesFirst l.step-index l.initial.group l.group l.initial.log l.log l.initial.steps l.steps
