use Rattle.std.proofs.Common.{◌+◌, ◌∙◌, arith}
use Rattle.std.proofs.lemmas.Result.{err_from_is_err_and}
use Rattle.graphml.specs.Body.{edges_from, parties_from}
use Rattle.graphml.specs.Writer.{writer}
use Rattle.graphml.proofs.Loops.{Left, left_as, left_more, left_stop}
use Rattle.graphml.proofs.Steps.{one_party, no_party}
use Rattle.graphml.proofs.graph.write_body.Goals as goal
use Rattle.graphml.proofs.graph.write_body.Goals.{After-write_edges, else-loop-party-test, then-loop-party-test+in_ok-run+else-party-party-end}

pub returns-in_err-run : goal.returns-in_err-run
returns-in_err-run c =
    let told = c.in_err-run.ensures in
    let x = left_stop _ _ _ (left_as _ (one_party c.args.log.now c.loop-party.party c.args.parties (omega arith)) c.loop-party.invariant) told.whole told.after told.numbers in
    rw (err_from_is_err_and c.from_residual.result c.from_residual.ensures.1).1 (record { whole = x.0; after = x.1; sound = told.sound; numbers = x.2 })

pub loop-party-preserved : goal.loop-party-preserved
loop-party-preserved c =
    let told = c.in_ok-run.ensures in
    left_more _ _ _ (left_as _ (one_party c.args.log.now c.loop-party.party c.args.parties (omega arith)) c.loop-party.invariant) told.whole told.after told.sound told.numbers

-- every party is written, and only the edges are left
only_edges : (c : After-write_edges) → Left (writer c.loop-party-test.out) (edges_from 0 c.args.log.now) (writer c.args.out.now) (parties_from c.args.log.now 0 (c.args.parties + 1)) 20
only_edges c =
    elim c.loop-party-test.branch [
      | else-loop-party-test w ↦ rw w.out-is (left_as _ (no_party c.args.log.now c.loop-party.party c.args.parties (omega arith)) c.loop-party.invariant)
      | then-loop-party-test+in_ok-run+else-party-party-end w ↦
          let told = w.in_ok-run.ensures in
          let l = left_more _ _ _ (left_as _ (one_party c.args.log.now c.loop-party.party c.args.parties (omega arith)) c.loop-party.invariant) told.whole told.after told.sound told.numbers in
          rw w.out-is (left_as _ (no_party c.args.log.now (c.loop-party.party + 1) c.args.parties (omega arith)) l)
    ]

pub returns-in-Ok-clause-after : goal.returns-in-Ok-clause-after
returns-in-Ok-clause-after c = c.write_edges.ensures.after ∙ (only_edges (goal.at.returns-in-Ok-clause-after c).After-write_edges).draws

pub returns-in-Err-clause-after : goal.returns-in-Err-clause-after
returns-in-Err-clause-after c = c.write_edges.ensures.after ∙ (only_edges (goal.at.returns-in-Err-clause-after c).After-write_edges).draws
