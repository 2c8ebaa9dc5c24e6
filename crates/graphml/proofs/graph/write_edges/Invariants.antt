use Rattle.std.proofs.Common.{drop}
use Rattle.graphml.specs.Body.{edges_from}
use Rattle.graphml.specs.Writer.{writer}
use Rattle.graphml.proofs.Loops.{Left}
use Rattle.graphml.proofs.graph.write_edges.Given as goal

abbrev pub invariant-loop-place : goal.invariant-loop-place
invariant-loop-place l = Left (writer l.out) (edges_from l.place (drop l.place l.log)) (writer l.initial.out) (edges_from 0 l.log) 20
