-- The numbers in a forest's elements.
use Rattle.std.specs.Prelude.{◌^◌, ◌<◌}
use Rattle.graphml.specs.Elements.{Tag, run, node, graph, happened, edge}

-- what stands in an element's line are numbers of 64 bits
abbrev pub Fits : Tag → Type 0
Fits run = Unit {0}
Fits (node i) = i < 2 ^ 64
Fits (graph i) = Unit {0}
Fits (happened k h) = (k < 2 ^ 64) × (h.tick < 2 ^ 64)
Fits (edge a b) = (a < 2 ^ 64) × (b < 2 ^ 64)
