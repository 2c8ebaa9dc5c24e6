-- The files of the examples, as their lines.
use Rattle.std.specs.Prelude.{ℕ, List, [], ◌∷◌, ◌++◌, codes}
use Rattle.std.specs.List.{flat_map}

-- lines, each ended by a line feed
abbrev pub text : List (List ℕ) → List ℕ
text lines = flat_map (λ line. line ++ 10 ∷ []) lines

-- the frame with such lines in it: 275 bytes beside them
abbrev pub framed : List (List ℕ) → List ℕ
framed lines =
    text
    (codes "<?xml version=\"1.0\" encoding=\"UTF-8\"?>"
    ∷ codes "<graphml xmlns=\"http://graphml.graphdrawing.org/xmlns\">"
    ∷ codes "<key id=\"t\" for=\"node\" attr.name=\"tick\" attr.type=\"long\"/>"
    ∷ codes "<key id=\"k\" for=\"node\" attr.name=\"what\" attr.type=\"string\"/>"
    ∷ codes "<graph id=\"run\" edgedefault=\"directed\">"
    ∷ (lines ++ (codes "</graph>" ∷ codes "</graphml>" ∷ [])))

-- of a run of no calls, whole
abbrev pub empty_file : List ℕ
empty_file =
    framed
    (codes "<node id=\"p0\">"
    ∷ codes "<graph id=\"p0:\" edgedefault=\"directed\">"
    ∷ codes "</graph>"
    ∷ codes "</node>"
    ∷ codes "<node id=\"p1\">"
    ∷ codes "<graph id=\"p1:\" edgedefault=\"directed\">"
    ∷ codes "</graph>"
    ∷ codes "</node>"
    ∷ [])

-- its 298 bytes in an output of 346: party 0's inner graph does not fit beside its node
abbrev pub empty_file_cut : List ℕ
empty_file_cut = framed (codes "<node id=\"p0\">" ∷ codes "</node>" ∷ [])

-- of the run in which a tick waits: party 0 with its first happening
abbrev pub waiting_first : List (List ℕ)
waiting_first =
    codes "<node id=\"p0\">"
    ∷ codes "<graph id=\"p0:\" edgedefault=\"directed\">"
    ∷ codes "<node id=\"h0\"><data key=\"t\">1</data><data key=\"k\">sent</data></node>"
    ∷ []

-- its 416 bytes in an output of 487
abbrev pub waiting_file_cut : List ℕ
waiting_file_cut = framed (waiting_first ++ (codes "</graph>" ∷ codes "</node>" ∷ []))

-- its 802 bytes in an output of 833: all but the second edge
abbrev pub waiting_file : List ℕ
waiting_file =
    framed
    (waiting_first
    ++ (codes "<node id=\"h3\"><data key=\"t\">2</data><data key=\"k\">arrived</data></node>"
    ∷ codes "<node id=\"h4\"><data key=\"t\">2</data><data key=\"k\">sent</data></node>"
    ∷ codes "</graph>"
    ∷ codes "</node>"
    ∷ codes "<node id=\"p1\">"
    ∷ codes "<graph id=\"p1:\" edgedefault=\"directed\">"
    ∷ codes "<node id=\"h1\"><data key=\"t\">2</data><data key=\"k\">arrived</data></node>"
    ∷ codes "<node id=\"h2\"><data key=\"t\">2</data><data key=\"k\">sent</data></node>"
    ∷ codes "</graph>"
    ∷ codes "</node>"
    ∷ codes "<edge source=\"h0\" target=\"h1\"/>"
    ∷ []))

-- of the run in which a party joins, hears the root and leaves: 1968 bytes, whole
abbrev pub leaving_file : List ℕ
leaving_file =
    framed
    (codes "<node id=\"p0\">"
    ∷ codes "<graph id=\"p0:\" edgedefault=\"directed\">"
    ∷ codes "<node id=\"h2\"><data key=\"t\">2</data><data key=\"k\">arrived</data></node>"
    ∷ codes "<node id=\"h6\"><data key=\"t\">4</data><data key=\"k\">sent</data></node>"
    ∷ codes "<node id=\"h10\"><data key=\"t\">6</data><data key=\"k\">arrived</data></node>"
    ∷ codes "<node id=\"h12\"><data key=\"t\">6</data><data key=\"k\">arrived</data></node>"
    ∷ codes "<node id=\"h13\"><data key=\"t\">8</data><data key=\"k\">sent</data></node>"
    ∷ codes "<node id=\"h16\"><data key=\"t\">9</data><data key=\"k\">arrived</data></node>"
    ∷ codes "</graph>"
    ∷ codes "</node>"
    ∷ codes "<node id=\"p1\">"
    ∷ codes "<graph id=\"p1:\" edgedefault=\"directed\">"
    ∷ codes "<node id=\"h0\"><data key=\"t\">0</data><data key=\"k\">joining</data></node>"
    ∷ codes "<node id=\"h1\"><data key=\"t\">0</data><data key=\"k\">sent</data></node>"
    ∷ codes "<node id=\"h3\"><data key=\"t\">2</data><data key=\"k\">enrolled</data></node>"
    ∷ codes "<node id=\"h4\"><data key=\"t\">2</data><data key=\"k\">sent</data></node>"
    ∷ codes "<node id=\"h5\"><data key=\"t\">4</data><data key=\"k\">lost</data></node>"
    ∷ codes "<node id=\"h7\"><data key=\"t\">4</data><data key=\"k\">sent</data></node>"
    ∷ codes "<node id=\"h8\"><data key=\"t\">6</data><data key=\"k\">arrived</data></node>"
    ∷ codes "<node id=\"h9\"><data key=\"t\">6</data><data key=\"k\">sent</data></node>"
    ∷ codes "<node id=\"h11\"><data key=\"t\">6</data><data key=\"k\">leaving</data></node>"
    ∷ codes "<node id=\"h14\"><data key=\"t\">9</data><data key=\"k\">arrived</data></node>"
    ∷ codes "<node id=\"h15\"><data key=\"t\">9</data><data key=\"k\">sent</data></node>"
    ∷ codes "<node id=\"h17\"><data key=\"t\">9</data><data key=\"k\">struck</data></node>"
    ∷ codes "<node id=\"h18\"><data key=\"t\">21</data><data key=\"k\">left</data></node>"
    ∷ codes "</graph>"
    ∷ codes "</node>"
    ∷ codes "<edge source=\"h1\" target=\"h2\"/>"
    ∷ codes "<edge source=\"h6\" target=\"h8\"/>"
    ∷ codes "<edge source=\"h9\" target=\"h10\"/>"
    ∷ codes "<edge source=\"h7\" target=\"h12\"/>"
    ∷ codes "<edge source=\"h13\" target=\"h14\"/>"
    ∷ codes "<edge source=\"h15\" target=\"h16\"/>"
    ∷ [])
