use Rattle.std.proofs.Common.{◌≡◌, arith}
use Rattle.graphml.specs.Body.{party_then}
use Rattle.graphml.specs.Writer.{writer, after_fitting}
use Rattle.graphml.specs.Numbers.{Fits}
use Rattle.graphml.proofs.Party.{no_graph, all_in, no_graph_numbers, all_numbers}
use Rattle.graphml.proofs.graph.write_party.Goals as goal
use Rattle.graphml.proofs.graph.write_party.Goals.{After-close-run}
use Rattle.markup.specs.Cut.{fitting_part}
use Rattle.markup.specs.Forests.{none, Each}
use Rattle.graphml.specs.Elements.{spelling}

pub returns-in-Err-clause-after : goal.returns-in-Err-clause-after
returns-in-Err-clause-after c =
    let a = c.in_ok-node.ensures in
    let b = c.in-Err.ensures in
    no_graph c.args.party c.args.log.now c.requires a.room a.after b.room b.after c.close.ensures.after

pub returns-in-Err-clause-numbers : goal.returns-in-Err-clause-numbers
returns-in-Err-clause-numbers c =
    let a = c.in_ok-node.ensures in
    let b = c.in-Err.ensures in
    no_graph_numbers c.args.party c.args.log.now c.requires a.room a.after (omega arith) b.room

closed : (c : After-close-run) → writer c.close-run.new.out ≡ after_fitting (writer c.args.out.now) (party_then c.args.log.now c.args.party none)
closed c =
    let a = c.in_ok-node.ensures in
    let b = c.in-Ok.ensures in
    all_in c.args.party c.args.log.now c.requires a.room a.after b.room b.after c.write_happenings-written.ensures.after c.close-node.ensures.after c.close-run.ensures.after

pub returns-in-Ok-written-clause-after : goal.returns-in-Ok-written-clause-after
returns-in-Ok-written-clause-after c = closed (goal.at.returns-in-Ok-written-clause-after c).After-close-run

pub returns-in-Err-written-clause-after : goal.returns-in-Err-written-clause-after
returns-in-Err-written-clause-after c = closed (goal.at.returns-in-Err-written-clause-after c).After-close-run

numbered : (c : After-close-run) → Each Fits (fitting_part spelling c.args.out.now.room (party_then c.args.log.now c.args.party none))
numbered c =
    let a = c.in_ok-node.ensures in
    let b = c.in-Ok.ensures in
    all_numbers c.args.party c.args.log.now c.requires a.room a.after (omega arith) b.room b.after c.write_happenings-written.ensures.numbers

pub returns-in-Ok-written-clause-numbers : goal.returns-in-Ok-written-clause-numbers
returns-in-Ok-written-clause-numbers c = numbered (goal.at.returns-in-Ok-written-clause-numbers c).After-close-run

pub returns-in-Err-written-clause-numbers : goal.returns-in-Err-written-clause-numbers
returns-in-Err-written-clause-numbers c = numbered (goal.at.returns-in-Err-written-clause-numbers c).After-close-run
