-- The lines of the file, each ended by a line feed.
use Rattle.std.specs.Prelude.{ℕ, List, ◌++◌, codes, decimal}
use Rattle.protocol.specs.Words.{word}
use Rattle.protocol.specs.declared.happening.Happening.{Happening}

-- the frame's first five lines, 255 bytes
unfoldable pub head : List ℕ
head =
    codes "<?xml version=\"1.0\" encoding=\"UTF-8\"?>\n"
    ++ codes "<graphml xmlns=\"http://graphml.graphdrawing.org/xmlns\">\n"
    ++ codes "<key id=\"t\" for=\"node\" attr.name=\"tick\" attr.type=\"long\"/>\n"
    ++ codes "<key id=\"k\" for=\"node\" attr.name=\"what\" attr.type=\"string\"/>\n"
    ++ codes "<graph id=\"run\" edgedefault=\"directed\">\n"

-- the frame's last two lines, 20 bytes
unfoldable pub tail : List ℕ
tail = codes "</graph>\n" ++ codes "</graphml>\n"

-- party i's node
unfoldable pub node_line : ℕ → List ℕ
node_line i = codes "<node id=\"p" ++ decimal i ++ codes "\">\n"

abbrev pub node_end : List ℕ
node_end = codes "</node>\n"

-- party i's inner graph
unfoldable pub graph_line : ℕ → List ℕ
graph_line i = codes "<graph id=\"p" ++ decimal i ++ codes ":\" edgedefault=\"directed\">\n"

abbrev pub graph_end : List ℕ
graph_end = codes "</graph>\n"

-- the happening h at place k of the log
unfoldable pub happening_line : ℕ → Happening → List ℕ
happening_line k h =
    codes "<node id=\"h" ++ decimal k
    ++ codes "\"><data key=\"t\">" ++ decimal h.tick ++ codes "</data><data key=\"k\">" ++ word h.kind
    ++ codes "</data></node>\n"

-- an edge from the happening at place a to the one at place b
unfoldable pub edge_line : ℕ → ℕ → List ℕ
edge_line a b =
    codes "<edge source=\"h" ++ decimal a ++ codes "\" target=\"h" ++ decimal b ++ codes "\"/>\n"
