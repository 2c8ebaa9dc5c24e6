use Rattle.std.proofs.Common.{sym, ◌∙◌, eq-eqb, ne_eqb}
use Rattle.graphml.specs.Elements.{happened}
use Rattle.graphml.specs.Body.{is_owned}
use Rattle.graphml.proofs.Steps.{picked, passed}
use Rattle.graphml.proofs.Loops.{left_as, left_more}
use Rattle.graphml.proofs.graph.write_happenings.Goals as goal
use Rattle.graphml.proofs.graph.write_happenings.Goals.{then-from-party+in_ok-happening, else-from-party}

pub loop-place-preserved : goal.loop-place-preserved
loop-place-preserved c =
    elim c.if-from-party.branch [
      | then-from-party+in_ok-happening w ↦
          let told = w.in_ok-happening.ensures in
          let l = left_as _ (picked (is_owned c.args.party) happened c.loop-place.place c.args.log.now c.loop-place-test.true _ (eq-eqb _ _ (sym c.from.ensures ∙ w.if-from-party.true))) c.loop-place.invariant in
          rw w.out-is (left_more _ _ _ l told.whole told.after told.sound told.numbers)
      | else-from-party w ↦
          let l = left_as _ (passed (is_owned c.args.party) happened c.loop-place.place c.args.log.now c.loop-place-test.true _ (ne_eqb _ _ (λ e. w.if-from-party.false (c.from.ensures ∙ e)))) c.loop-place.invariant in
          rw w.out-is l
    ]
