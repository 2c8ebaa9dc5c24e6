-- What counts as a happening, and what as an edge.
use Rattle.std.specs.Prelude.{ℕ}
use Rattle.graphml.specs.Elements.{Tag, run, node, graph, happened, edge}

abbrev pub is_happening : Tag → ℕ
is_happening run = 0
is_happening (node i) = 0
is_happening (graph i) = 0
is_happening (happened k h) = 1
is_happening (edge a b) = 0

abbrev pub is_edge : Tag → ℕ
is_edge run = 0
is_edge (node i) = 0
is_edge (graph i) = 0
is_edge (happened k h) = 0
is_edge (edge a b) = 1
