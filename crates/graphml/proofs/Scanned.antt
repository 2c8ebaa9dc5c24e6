-- What the scanner reads in each line, from a line feed before it up to the line feed at its end.
use Rattle.std.proofs.Common.{◌≡◌, ℕ, List, [], ◌∷◌, ◌++◌, codes, decimal, ap, ◌∙◌, append_assoc}
use Rattle.protocol.specs.Words.{word}
use Rattle.protocol.specs.declared.happening.Happening.{Happening}
use Rattle.graphml.specs.Texts.{node_line, graph_line, happening_line, edge_line}
use Rattle.markup.specs.Marks.{Attribute, Mark, starts, stops, stands, text_marks}
use Rattle.markup.proofs.Digits.{text_on, decimal_plain, value_past}
use Rattle.markup.proofs.Nesting.{feed, line, attr}
use Rattle.markup.proofs.Joined.{four, seven}
use Rattle.graphml.proofs.Words.{word_plain}

abbrev pub fed : List Mark → List Mark
fed ms = feed ∷ ms

-- the attributes of a party's node, of its graph, of an edge and of a happening
abbrev pub node_attrs : ℕ → List Attribute
node_attrs i = attr (codes "id") (codes "p" ++ decimal i) ∷ []

abbrev pub directed : Attribute
directed = attr (codes "edgedefault") (codes "directed")

abbrev pub graph_attrs : ℕ → List Attribute
graph_attrs i = attr (codes "id") ((codes "p" ++ decimal i) ++ codes ":") ∷ directed ∷ []

abbrev pub edge_attrs : ℕ → ℕ → List Attribute
edge_attrs a b = attr (codes "source") (codes "h" ++ decimal a) ∷ attr (codes "target") (codes "h" ++ decimal b) ∷ []

abbrev pub happening_attrs : ℕ → List Attribute
happening_attrs k = attr (codes "id") (codes "h" ++ decimal k) ∷ []

abbrev pub node_mark : ℕ → Mark
node_mark i = starts (codes "node") (node_attrs i)

pub node_read : (i : ℕ) (rest : List ℕ) → line (node_line i ++ rest) ≡ feed ∷ node_mark i ∷ line rest
unfolding node_line
node_read i rest =
    ap (λ (bs : List ℕ). line (codes "<node id=\"p" ++ bs)) (append_assoc (decimal i) (codes "\">\n") rest)
    ∙ ap fed (value_past (codes "node") (codes "id") [] (codes "p") i (codes "\">\n" ++ rest))

abbrev pub graph_mark : ℕ → Mark
graph_mark i = starts (codes "graph") (graph_attrs i)

pub graph_read : (i : ℕ) (rest : List ℕ) → line (graph_line i ++ rest) ≡ feed ∷ graph_mark i ∷ line rest
unfolding graph_line
graph_read i rest =
    ap (λ (bs : List ℕ). line (codes "<graph id=\"p" ++ bs)) (append_assoc (decimal i) (codes ":\" edgedefault=\"directed\">\n") rest)
    ∙ ap fed (value_past (codes "graph") (codes "id") [] (codes "p") i (codes ":\" edgedefault=\"directed\">\n" ++ rest))

abbrev pub edge_mark : ℕ → ℕ → Mark
edge_mark a b = stands (codes "edge") (edge_attrs a b)

pub edge_read : (a b : ℕ) (rest : List ℕ) → line (edge_line a b ++ rest) ≡ feed ∷ edge_mark a b ∷ line rest
unfolding edge_line
edge_read a b rest =
    let end : List ℕ = codes "\"/>\n" ++ rest in
    ap (λ (bs : List ℕ). line (codes "<edge source=\"h" ++ bs)) (four (decimal a) (codes "\" target=\"h") (decimal b) (codes "\"/>\n") rest)
    ∙ ap fed (value_past (codes "edge") (codes "source") [] (codes "h") a (codes "\" target=\"h" ++ (decimal b ++ end)))
    ∙ ap fed (value_past (codes "edge") (codes "target") (attr (codes "source") (codes "h" ++ decimal a) ∷ []) (codes "h") b end)

abbrev pub data_marks : List ℕ → List Mark → List Mark → List Mark
data_marks key said ms = starts (codes "data") (attr (codes "key") key ∷ []) ∷ (said ++ (stops (codes "data") ∷ ms))

abbrev pub happening_marks : ℕ → Happening → List Mark → List Mark
happening_marks k h ms =
    starts (codes "node") (happening_attrs k) ∷ data_marks (codes "t") (text_marks (decimal h.tick)) (data_marks (codes "k") (text_marks (word h.kind)) (stops (codes "node") ∷ ms))

pub happening_read : (k : ℕ) (h : Happening) (rest : List ℕ) → line (happening_line k h ++ rest) ≡ feed ∷ happening_marks k h (line rest)
unfolding happening_line
happening_read k h rest =
    let end : List ℕ = codes "</data></node>\n" ++ rest in
    let kind : List ℕ = codes "</data><data key=\"k\">" ++ (word h.kind ++ end) in
    let start : List Mark → List Mark = λ (ms : List Mark). feed ∷ starts (codes "node") (attr (codes "id") (codes "h" ++ decimal k) ∷ []) ∷ starts (codes "data") (attr (codes "key") (codes "t") ∷ []) ∷ ms in
    ap (λ (bs : List ℕ). line (codes "<node id=\"h" ++ bs)) (seven (decimal k) (codes "\"><data key=\"t\">") (decimal h.tick) (codes "</data><data key=\"k\">") (word h.kind) (codes "</data></node>\n") rest)
    ∙ ap fed (value_past (codes "node") (codes "id") [] (codes "h") k (codes "\"><data key=\"t\">" ++ (decimal h.tick ++ kind)))
    ∙ ap start (text_on [] (decimal h.tick) kind (decimal_plain h.tick))
    ∙ ap (λ (ms : List Mark). start (text_marks (decimal h.tick) ++ (stops (codes "data") ∷ starts (codes "data") (attr (codes "key") (codes "k") ∷ []) ∷ ms))) (text_on [] (word h.kind) end (word_plain h.kind))
