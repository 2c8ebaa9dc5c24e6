use Rattle.std.proofs.Common.{◌<◌, ◌+◌, ◌∙◌, refl, arith}
use Rattle.graphml.specs.Texts.{edge_line}
use Rattle.graphml.proofs.Sounds.{counted}
use Rattle.graphml.proofs.Words.{some_edge}
use Rattle.graphml.proofs.element.RunGraph.edge.Goals as goal
use Rattle.graphml.specs.Writer.{writer, Sound}
use Rattle.graphml.proofs.element.RunGraph.edge.Goals.{In_ok-begin}

one_more : (c : In_ok-begin) → Sound (writer c.begin.new.out) 20 × ((writer c.begin.new.out).happenings + (writer c.begin.new.out).edges < (writer c.begin.new.out).out.at)
one_more c =
    let told = c.in_ok-begin.ensures in
    counted (edge_line c.args.source c.args.target) 20 (c.as_slice.ensures.text ∙ c.edge_line.ensures) (some_edge c.args.source c.args.target) told.room told.after c.requires

pub overflow_add-out : goal.overflow_add-out
overflow_add-out c =
    let few = (one_more (goal.at.overflow_add-out c).In_ok-begin).1 in
    let end = (goal.at.overflow_add-out c).In_ok-begin.in_ok-begin.ensures.end refl in
    omega arith

pub returns-clause-sound : goal.returns-clause-sound
returns-clause-sound c =
    let h = one_more (goal.at.returns-clause-sound c).In_ok-begin in
    record { fits = h.0.fits; few = omega arith }
