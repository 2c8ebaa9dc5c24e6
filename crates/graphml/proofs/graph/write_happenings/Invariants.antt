use Rattle.std.proofs.Common.{drop}
use Rattle.graphml.specs.Body.{happenings_of}
use Rattle.graphml.specs.Writer.{writer}
use Rattle.graphml.proofs.Loops.{Left}
use Rattle.graphml.proofs.graph.write_happenings.Given as goal

abbrev pub invariant-loop-place : goal.invariant-loop-place
invariant-loop-place l = Left (writer l.out) (happenings_of l.party l.place (drop l.place l.log)) (writer l.initial.out) (happenings_of l.party 0 l.log) 37
