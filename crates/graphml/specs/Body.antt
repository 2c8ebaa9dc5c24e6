-- The forest of a log: the parties with their happenings, and then the edges.
use Rattle.std.specs.Prelude.{ℕ, zero, suc, ◌+◌, Bool, cond, List, [], ◌∷◌, ◌==◌}
use Rattle.protocol.specs.Words.{kind_number}
use Rattle.protocol.specs.declared.happening.Happening.{Happening}
use Rattle.protocol.specs.declared.happening.HappeningKind.{HappeningKind}
use Rattle.protocol.specs.declared.happening.HappeningKind.TheVariants.{Arrived}
use Rattle.graphml.specs.Elements.{Tag, node, graph, happened, edge}
use Rattle.markup.specs.Forests.{Forest, none, element}

-- a line for each record of hs that is picked, in order; hs stand in the log from place k on
abbrev pub lines_of : (Happening → Bool) → (ℕ → Happening → Tag) → ℕ → List Happening → Forest Tag
lines_of pick tag k [] = none
lines_of pick tag k (h ∷ hs) =
    let rest = lines_of pick tag (k + 1) hs in
    cond (pick h) (element (tag k h) none rest) rest

abbrev pub is_owned : ℕ → Happening → Bool
is_owned i h = h.owner == i

abbrev pub is_arrived : HappeningKind → Bool
is_arrived kind = kind_number kind == kind_number Arrived

abbrev pub is_arrival : Happening → Bool
is_arrival h = is_arrived h.kind

abbrev pub arrival_edge : ℕ → Happening → Tag
arrival_edge k h = edge h.link k

-- the happenings of party i
abbrev pub happenings_of : ℕ → ℕ → List Happening → Forest Tag
happenings_of i = lines_of (is_owned i) happened

-- an edge for each arrival, from the place of the sending to its own
abbrev pub edges_from : ℕ → List Happening → Forest Tag
edges_from = lines_of is_arrival arrival_edge

-- party i's node and inner graph with its happenings, and then the forest after it
abbrev pub party_then : List Happening → ℕ → Forest Tag → Forest Tag
party_then log i after = element (node i) (element (graph i) (happenings_of i 0 log) none) after

-- m parties from i on, and then the edges
abbrev pub parties_from : List Happening → ℕ → ℕ → Forest Tag
parties_from log i zero = edges_from 0 log
parties_from log i (suc m) = party_then log i (parties_from log (i + 1) m)

-- the parties 0 to n, and then the edges
abbrev pub body : List Happening → ℕ → Forest Tag
body log n = parties_from log 0 (n + 1)
