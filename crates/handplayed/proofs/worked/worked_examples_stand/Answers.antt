use Rattle.std.proofs.Common.{refl}
use Rattle.std.specs.Fmt.{digits}
use Rattle.pace.specs.Halving.{halving}
use Rattle.graphml.specs.Texts.{head, tail, node_line, graph_line, happening_line, edge_line}
use Rattle.orders.specs.Loading.{orders_from}
use Rattle.player.specs.Notices.{refused_line, cut_line, stopped_line}
use Rattle.handplayed.proofs.worked.worked_examples_stand.Goals as goal

pub returns : goal.returns
unfolding digits halving head tail node_line graph_line happening_line edge_line orders_from refused_line cut_line stopped_line
returns c = refl
