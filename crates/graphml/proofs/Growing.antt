-- The tree of a forest's text: every element in it is closed in its turn.
use Rattle.std.proofs.Common.{◌≡◌, ℕ, List, [], ◌∷◌, ◌++◌, codes, decimal, Some, refl, ap, ◌∙◌, append_assoc}
use Rattle.protocol.specs.Words.{word}
use Rattle.protocol.specs.declared.happening.Happening.{Happening}
use Rattle.graphml.specs.Texts.{head, tail, node_line, node_end, graph_line, graph_end, happening_line, edge_line}
use Rattle.graphml.specs.Elements.{spelling, Tag, run, node, graph, happened, edge}
use Rattle.graphml.specs.Answer.{in_frame}
use Rattle.markup.specs.Marks.{Attribute, Mark, starts, stops, text_marks, marks}
use Rattle.markup.specs.Closing.{Content, empty, element as holds, OpenElement, content_from, sole_element, document, tree}
use Rattle.markup.proofs.Joined.{four}
use Rattle.markup.proofs.Nesting.{line, attr, fed, said, content_from_said, at}
use Rattle.graphml.proofs.Scanned.{directed, node_attrs, graph_attrs, edge_attrs, happening_attrs, node_read, graph_read, edge_read, happening_read}
use Rattle.markup.specs.Forests.{Forest, none, element, render, Each}

-- no frame stands within
abbrev pub Framed : Tag → Type 0
Framed run = ⊥
Framed (node i) = Unit {0}
Framed (graph i) = Unit {0}
Framed (happened k h) = Unit {0}
Framed (edge a b) = Unit {0}

abbrev pub datum_in : Content → List ℕ → List ℕ → Content
datum_in c key t = holds c (codes "data") (attr (codes "key") key ∷ []) (said empty t)

abbrev pub happening_data : Happening → Content
happening_data h = datum_in (datum_in empty (codes "t") (decimal h.tick)) (codes "k") (word h.kind)

-- what is read of a forest, after c
abbrev pub put : Content → Forest Tag → Content
put c none = c
put c (element run i a) = c
put c (element (node x) i a) = put (holds (fed c) (codes "node") (node_attrs x) (fed (put empty i))) a
put c (element (graph x) i a) = put (holds (fed c) (codes "graph") (graph_attrs x) (fed (put empty i))) a
put c (element (happened k h) i a) = put (put (holds (fed c) (codes "node") (happening_attrs k) (happening_data h)) i) a
put c (element (edge k l) i a) = put (put (holds (fed c) (codes "edge") (edge_attrs k l) empty) i) a

pub forest_grown : (f : Forest Tag) → Each Framed f → (o : OpenElement) (os : List OpenElement) (c : Content) (rest : List ℕ) → content_from (o ∷ os) c (line (render spelling f ++ rest)) ≡ content_from (o ∷ os) (put c f) (line rest)
forest_grown none h o os c rest = refl
forest_grown (element run i a) h o os c rest = absurd h.0
forest_grown (element (node x) i a) h o os c rest =
    let end : List ℕ = node_end ++ (render spelling a ++ rest) in
    rw (four (node_line x) (render spelling i) node_end (render spelling a) rest, node_read x (render spelling i ++ end), forest_grown i h.1 (at (fed c) (codes "node") (node_attrs x)) (o ∷ os) empty end)
    (forest_grown a h.2 o os (holds (fed c) (codes "node") (node_attrs x) (fed (put empty i))) rest)
forest_grown (element (graph x) i a) h o os c rest =
    let end : List ℕ = graph_end ++ (render spelling a ++ rest) in
    rw (four (graph_line x) (render spelling i) graph_end (render spelling a) rest, graph_read x (render spelling i ++ end), forest_grown i h.1 (at (fed c) (codes "graph") (graph_attrs x)) (o ∷ os) empty end)
    (forest_grown a h.2 o os (holds (fed c) (codes "graph") (graph_attrs x) (fed (put empty i))) rest)
forest_grown (element (happened k w) i a) h o os c rest =
    let after : List ℕ = render spelling i ++ (render spelling a ++ rest) in
    let end : List Mark = stops (codes "data") ∷ stops (codes "node") ∷ line after in
    let mid : List Mark = stops (codes "data") ∷ starts (codes "data") (attr (codes "key") (codes "k") ∷ []) ∷ (text_marks (word w.kind) ++ end) in
    let own : OpenElement = at (fed c) (codes "node") (happening_attrs k) in
    let tick : OpenElement = at empty (codes "data") (attr (codes "key") (codes "t") ∷ []) in
    let kind : OpenElement = at (datum_in empty (codes "t") (decimal w.tick)) (codes "data") (attr (codes "key") (codes "k") ∷ []) in
    let here : Content = holds (fed c) (codes "node") (happening_attrs k) (happening_data w) in
    rw (four (happening_line k w) (render spelling i) [] (render spelling a) rest, happening_read k w after)
    (content_from_said (tick ∷ own ∷ o ∷ os) empty (decimal w.tick) mid
    ∙ content_from_said (kind ∷ own ∷ o ∷ os) empty (word w.kind) end
    ∙ forest_grown i h.1 o os here (render spelling a ++ rest)
    ∙ forest_grown a h.2 o os (put here i) rest)
forest_grown (element (edge k l) i a) h o os c rest =
    let here : Content = holds (fed c) (codes "edge") (edge_attrs k l) empty in
    rw (four (edge_line k l) (render spelling i) [] (render spelling a) rest, edge_read k l (render spelling i ++ (render spelling a ++ rest)))
    (forest_grown i h.1 o os here (render spelling a ++ rest) ∙ forest_grown a h.2 o os (put here i) rest)

-- the elements of the frame
abbrev pub key_attrs : List ℕ → List ℕ → List ℕ → List Attribute
key_attrs id name type = attr (codes "id") id ∷ attr (codes "for") (codes "node") ∷ attr (codes "attr.name") name ∷ attr (codes "attr.type") type ∷ []

abbrev pub keys_in : Content
keys_in =
    holds (fed (holds (fed empty) (codes "key") (key_attrs (codes "t") (codes "tick") (codes "long")) empty))
    (codes "key") (key_attrs (codes "k") (codes "what") (codes "string")) empty

abbrev pub run_attrs : List Attribute
run_attrs = attr (codes "id") (codes "run") ∷ directed ∷ []

abbrev pub file_attrs : List Attribute
file_attrs = attr (codes "xmlns") (codes "http://graphml.graphdrawing.org/xmlns") ∷ []

-- the tree of a file with that content in its graph
abbrev pub framed : Content → Content
framed c = fed (holds (fed empty) (codes "graphml") file_attrs (fed (holds (fed keys_in) (codes "graph") run_attrs (fed c))))

-- a forest without a frame, in the frame
pub frame_grown : (f : Forest Tag) → Each Framed f → tree (in_frame f) ≡ Some (framed (put empty f))
unfolding tree head tail
frame_grown f h =
    let all : document (marks (head ++ (render spelling f ++ tail))) ≡ Some (framed (put empty f)) =
    ap sole_element (forest_grown f h (at (fed keys_in) (codes "graph") run_attrs) (at (fed empty) (codes "graphml") file_attrs ∷ []) empty tail) in
    ap (λ (bs : List ℕ). document (marks bs)) (append_assoc head (render spelling f) tail) ∙ all
