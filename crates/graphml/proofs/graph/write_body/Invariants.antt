use Rattle.std.proofs.Common.{◌+◌, ◌-◌}
use Rattle.graphml.specs.Body.{parties_from}
use Rattle.graphml.specs.Writer.{writer}
use Rattle.graphml.proofs.Loops.{Left}
use Rattle.graphml.proofs.graph.write_body.Given as goal

abbrev pub invariant-loop-party : goal.invariant-loop-party
invariant-loop-party l = Left (writer l.out) (parties_from l.log l.party (l.parties + 1 - l.party)) (writer l.initial.out) (parties_from l.log 0 (l.parties + 1)) 20
