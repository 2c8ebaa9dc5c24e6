-- The elements of the file, and their text.
use Rattle.std.specs.Prelude.{ℕ, List, []}
use Rattle.protocol.specs.declared.happening.Happening.{Happening}
use Rattle.markup.specs.Forests.{Spelling}
use Rattle.graphml.specs.Texts.{head, tail, node_line, node_end, graph_line, graph_end, happening_line, edge_line}

-- what an element is: the run, a party's node, its inner graph, a happening at a place of the log,
-- or an edge between two places
pub data Tag : Type 0 where
  run : Tag
  node : ℕ → Tag
  graph : ℕ → Tag
  happened : ℕ → Happening → Tag
  edge : ℕ → ℕ → Tag

abbrev pub opening : Tag → List ℕ
opening run = head
opening (node i) = node_line i
opening (graph i) = graph_line i
opening (happened k h) = happening_line k h
opening (edge a b) = edge_line a b

-- a happening and an edge are closed in their one line
abbrev pub closing : Tag → List ℕ
closing run = tail
closing (node i) = node_end
closing (graph i) = graph_end
closing (happened k h) = []
closing (edge a b) = []

-- how the elements are spelled
abbrev pub spelling : Spelling Tag
spelling = record { opening = opening; closing = closing }
