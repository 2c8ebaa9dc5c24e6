use Rattle.std.proofs.Common.{sym}
use Rattle.graphml.specs.Body.{is_arrival, arrival_edge}
use Rattle.graphml.proofs.Steps.{picked, passed}
use Rattle.graphml.proofs.Loops.{left_as, left_more}
use Rattle.graphml.proofs.graph.write_edges.Goals as goal
use Rattle.graphml.proofs.graph.write_edges.Goals.{then-is_arrived+in_ok-edge, else-is_arrived}

pub loop-place-preserved : goal.loop-place-preserved
loop-place-preserved c =
    elim c.if-is_arrived.branch [
      | then-is_arrived+in_ok-edge w ↦
          let told = w.in_ok-edge.ensures in
          let l = left_as _ (picked is_arrival arrival_edge c.loop-place.place c.args.log.now c.loop-place-test.true _ (sym w.if-is_arrived.ensures)) c.loop-place.invariant in
          rw w.out-is (left_more _ _ _ l told.whole told.after told.sound told.numbers)
      | else-is_arrived w ↦
          let l = left_as _ (passed is_arrival arrival_edge c.loop-place.place c.args.log.now c.loop-place-test.true _ (sym w.if-is_arrived.ensures)) c.loop-place.invariant in
          rw w.out-is l
    ]
