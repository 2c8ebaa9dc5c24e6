-- What is read of a forest: its happenings and its edges, in their order there.
use Rattle.std.proofs.Common.{◌≡◌, ℕ, ◌+◌, ◌-◌, ◌^◌, ◌<◌, leb, List, [], ◌∷◌, ◌++◌, length, take, codes, decimal, Some, Option, refl, sym, ap, ◌∙◌, subst, append_assoc, append-nil, length-append, arith, ⊎_elim}
use Rattle.std.specs.List.{flat_map}
use Rattle.std.proofs.Math.Seq.{take-append_seam}
use Rattle.std.proofs.lemmas.Bool.{cases_Bool}
use Rattle.std.proofs.lemmas.Grind.{flat_map-append}
use Rattle.std.proofs.lemmas.List.{map-append}
use Rattle.protocol.specs.Words.{word}
use Rattle.protocol.specs.declared.happening.Happening.{Happening}
use Rattle.protocol.specs.declared.happening.HappeningKind.{HappeningKind}
use Rattle.protocol.specs.declared.happening.HappeningKind.TheVariants.{Sent, Arrived, Lost, Enrolled, Struck, Crashed, Stopped, Left, Joining, Leaving}
use Rattle.protocol.specs.Beats.{Edge, edge as arc}
use Rattle.graphml.specs.Elements.{spelling, Tag, run, node, graph, happened as tag_happened, edge as tag_edge}
use Rattle.graphml.specs.Counts.{is_happening, is_edge}
use Rattle.graphml.specs.Numbers.{Fits}
use Rattle.graphml.specs.Answer.{in_frame}
use Rattle.markup.specs.Marks.{Attribute}
use Rattle.markup.specs.Closing.{Content, empty, element as holds}
use Rattle.markup.specs.Reading.{each_in}
use Rattle.markup.proofs.Nesting.{fed}
use Rattle.markup.proofs.Back.{same_bytes, said_back, number_decimal}
use Rattle.graphml.specs.Reading.{Item, happened, joined, kind_named, happening_told, graph_item, node_items, run_items, items_read, edge_of}
use Rattle.graphml.specs.Log.{entry, all_read}
use Rattle.graphml.proofs.Scanned.{node_attrs, graph_attrs, edge_attrs, happening_attrs}
use Rattle.graphml.proofs.Shapes.{in_run, in_node, in_graph, Shaped}
use Rattle.graphml.proofs.Growing.{Framed, happening_data, put, framed, frame_grown}
use Rattle.markup.proofs.Kept.{fitting_part_stop, fitting_part_cut, fitting_part_on}
use Rattle.markup.specs.Cut.{size, cost, fitting_part, all_fits}
use Rattle.markup.specs.Forests.{Forest, none, element, count, Each}

pub kind_back : (k : HappeningKind) → kind_named (word k) ≡ Some k
kind_back Sent = refl
kind_back Arrived = refl
kind_back Lost = refl
kind_back Enrolled = refl
kind_back Struck = refl
kind_back Crashed = refl
kind_back Stopped = refl
kind_back Left = refl
kind_back Joining = refl
kind_back Leaving = refl

-- what an element tells, standing with party i, and with whom stands what is inside it
abbrev pub mark : ℕ → Tag → List Item
mark i run = []
mark i (node x) = []
mark i (graph x) = []
mark i (tag_happened k h) = happened i (entry k h) ∷ []
mark i (tag_edge a b) = joined (arc a b) ∷ []

abbrev pub whose : ℕ → Tag → ℕ
whose i run = i
whose i (node x) = x
whose i (graph x) = i
whose i (tag_happened k h) = i
whose i (tag_edge a b) = i

abbrev pub things : ℕ → Forest Tag → List Item
things i none = []
things i (element t f a) = mark i t ++ (things (whose i t) f ++ things i a)

abbrev pub read : List Item → List (Option Item)
read = all_read

read-append : (xs ys : List Item) → read (xs ++ ys) ≡ read xs ++ read ys
read-append xs ys = map-append (λ x. Some x) xs ys

-- two lists read one after the other
joint : (l : List (Option Item)) (xs ys : List Item) → (l ++ read xs) ++ read ys ≡ l ++ read (xs ++ ys)
joint l xs ys = append_assoc l (read xs) (read ys) ∙ ap (λ (m : List (Option Item)). l ++ m) (sym (read-append xs ys))

happening_seen : (i k : ℕ) (h : Happening) → k < 2 ^ 64 → h.tick < 2 ^ 64 → happening_told (Some i) (happening_attrs k) (happening_data h) ≡ Some (happened i (entry k h))
happening_seen i k h p q =
    rw (said_back (decimal h.tick), said_back (word h.kind), number_decimal k p, number_decimal h.tick q, kind_back h.kind) refl

in_graph_told : (i : ℕ) (f : Forest Tag) → Shaped (in_graph i) f → Each Fits f → (c : Content) → each_in (graph_item (Some i)) (put c f) ≡ each_in (graph_item (Some i)) c ++ read (things i f)
in_graph_told i none h p c = sym (append-nil (each_in (graph_item (Some i)) c))
in_graph_told i (element run f a) h p c = absurd h.0
in_graph_told i (element (node x) f a) h p c = absurd h.0
in_graph_told i (element (graph x) f a) h p c = absurd h.0
in_graph_told i (element (tag_edge k l) f a) h p c = absurd h.0
in_graph_told i (element (tag_happened k w) (element t g b) a) h p c = absurd h.1.0
in_graph_told i (element (tag_happened k w) none a) h p c =
    in_graph_told i a h.2 p.2 (holds (fed c) (codes "node") (happening_attrs k) (happening_data w))
    ∙ ap (λ (x : Option Item). (each_in (graph_item (Some i)) c ++ (x ∷ [])) ++ read (things i a)) (happening_seen i k w p.0.0 p.0.1)
    ∙ joint (each_in (graph_item (Some i)) c) (happened i (entry k w) ∷ []) (things i a)

in_node_told : (i : ℕ) → i < 2 ^ 64 → (f : Forest Tag) → Shaped (in_node i) f → Each Fits f → (c : Content) → each_in (node_items (codes "p" ++ decimal i)) (put c f) ≡ each_in (node_items (codes "p" ++ decimal i)) c ++ read (things i f)
in_node_told i q none h p c = sym (append-nil (each_in (node_items (codes "p" ++ decimal i)) c))
in_node_told i q (element run f a) h p c = absurd h.0
in_node_told i q (element (node x) f a) h p c = absurd h.0
in_node_told i q (element (tag_happened k w) f a) h p c = absurd h.0
in_node_told i q (element (tag_edge k l) f a) h p c = absurd h.0
in_node_told i q (element (graph x) f a) h p c =
    let g : List ℕ → List Attribute → Content → List (Option Item) = node_items (codes "p" ++ decimal i) in
    let here : Content = holds (fed c) (codes "graph") (graph_attrs x) (fed (put empty f)) in
    let mine : g (codes "graph") (graph_attrs i) (fed (put empty f)) ≡ read (things i f) =
    rw (same_bytes ((codes "p" ++ decimal i) ++ codes ":"), number_decimal i q) (in_graph_told i f (subst (λ (y : ℕ). Shaped (in_graph y) f) (sym h.0) h.1) p.1 empty) in
    let its : g (codes "graph") (graph_attrs x) (fed (put empty f)) ≡ read (things i f) = subst (λ (y : ℕ). g (codes "graph") (graph_attrs y) (fed (put empty f)) ≡ read (things i f)) h.0 mine in
    in_node_told i q a h.2 p.2 here
    ∙ ap (λ (l : List (Option Item)). (each_in g c ++ l) ++ read (things i a)) its
    ∙ joint (each_in g c) (things i f) (things i a)

in_run_told : (f : Forest Tag) → Shaped in_run f → Each Fits f → (c : Content) → each_in run_items (put c f) ≡ each_in run_items c ++ read (things 0 f)
in_run_told none h p c = sym (append-nil (each_in run_items c))
in_run_told (element run f a) h p c = absurd h.0
in_run_told (element (graph x) f a) h p c = absurd h.0
in_run_told (element (tag_happened k w) f a) h p c = absurd h.0
in_run_told (element (tag_edge k l) (element t g b) a) h p c = absurd h.1.0
in_run_told (element (tag_edge k l) none a) h p c =
    let its : run_items (codes "edge") (edge_attrs k l) empty ≡ Some (joined (arc k l)) ∷ [] = rw (number_decimal k p.0.0, number_decimal l p.0.1) refl in
    in_run_told a h.2 p.2 (holds (fed c) (codes "edge") (edge_attrs k l) empty)
    ∙ ap (λ (m : List (Option Item)). (each_in run_items c ++ m) ++ read (things 0 a)) its
    ∙ joint (each_in run_items c) (joined (arc k l) ∷ []) (things 0 a)
in_run_told (element (node x) f a) h p c =
    in_run_told a h.2 p.2 (holds (fed c) (codes "node") (node_attrs x) (fed (put empty f)))
    ∙ ap (λ (m : List (Option Item)). (each_in run_items c ++ m) ++ read (things 0 a)) (in_node_told x p.0 f h.1 p.1 empty)
    ∙ joint (each_in run_items c) (things x f) (things 0 a)

-- a file of such a forest
pub frame_told : (f : Forest Tag) → Each Framed f → Shaped in_run f → Each Fits f → items_read (in_frame f) ≡ read (things 0 f)
unfolding items_read
frame_told f framed h p = rw (frame_grown f framed) (in_run_told f h p empty)

-- how many they are
counted : (i : ℕ) (t : Tag) → length (mark i t) ≡ is_happening t + is_edge t
counted i run = refl
counted i (node x) = refl
counted i (graph x) = refl
counted i (tag_happened k h) = refl
counted i (tag_edge a b) = refl

pub all_counted : (i : ℕ) (f : Forest Tag) → length (things i f) ≡ count is_happening f + count is_edge f
all_counted i none = refl
all_counted i (element t f a) =
    let l = length-append (mark i t) (things (whose i t) f ++ things i a) in
    let m = length-append (things (whose i t) f) (things i a) in
    let own = counted i t in
    let inside = all_counted (whose i t) f in
    let after = all_counted i a in
    omega arith

abbrev arcs : List Item → List (Option Edge)
arcs xs = flat_map edge_of (read xs)

arcs-append : (xs ys : List Item) → arcs (xs ++ ys) ≡ arcs xs ++ arcs ys
arcs-append xs ys = ap (flat_map edge_of) (read-append xs ys) ∙ flat_map-append edge_of (read xs) (read ys)

edge_counted : (i : ℕ) (t : Tag) → length (arcs (mark i t)) ≡ is_edge t
edge_counted i run = refl
edge_counted i (node x) = refl
edge_counted i (graph x) = refl
edge_counted i (tag_happened k h) = refl
edge_counted i (tag_edge a b) = refl

pub edges_counted : (i : ℕ) (f : Forest Tag) → length (arcs (things i f)) ≡ count is_edge f
edges_counted i none = refl
edges_counted i (element t f a) =
    let l = ap (λ (es : List (Option Edge)). length es) (arcs-append (mark i t) (things (whose i t) f ++ things i a) ∙ ap (λ (es : List (Option Edge)). arcs (mark i t) ++ es) (arcs-append (things (whose i t) f) (things i a))) in
    let m = length-append (arcs (mark i t)) (arcs (things (whose i t) f) ++ arcs (things i a)) in
    let n = length-append (arcs (things (whose i t) f)) (arcs (things i a)) in
    let own = edge_counted i t in
    let inside = edges_counted (whose i t) f in
    let after = edges_counted i a in
    omega arith

regroup : (a b c d : List Item) → a ++ (b ++ (c ++ d)) ≡ (a ++ (b ++ c)) ++ d
regroup a b c d = ap (λ (l : List Item). a ++ l) (sym (append_assoc b c d)) ∙ sym (append_assoc a (b ++ c) d)

-- what is told of a part that is written comes first
abbrev pub StartsAs : List Item → List Item → Type 0
StartsAs xs all = (rest : List Item) × (all ≡ xs ++ rest)

pub kept_first : (i room : ℕ) (f : Forest Tag) → StartsAs (things i (fitting_part spelling room f)) (things i f)
kept_first i room none = ([], refl)
kept_first i room (element t f a) =
    let left : ℕ = room - size spelling t in
    ⊎_elim
    (λ x.
    ⊎_elim
    (λ y.
    let e = kept_first i (left - cost spelling f) a in (
      e.0,
      ap (λ (l : List Item). mark i t ++ (things (whose i t) f ++ l)) e.1
          ∙ regroup (mark i t) (things (whose i t) f) (things i (fitting_part spelling (left - cost spelling f) a)) e.0
          ∙ ap (λ g. things i g ++ e.0) (sym (fitting_part_on spelling room t f a x y)),
    ))
    (λ y.
    let e = kept_first (whose i t) left f in (
      e.0 ++ things i a,
      ap (λ (l : List Item). mark i t ++ (l ++ things i a)) e.1
          ∙ ap (λ (l : List Item). mark i t ++ l) (append_assoc (things (whose i t) (fitting_part spelling left f)) e.0 (things i a) ∙ ap (λ (l : List Item). l ++ (e.0 ++ things i a)) (sym (append-nil (things (whose i t) (fitting_part spelling left f)))))
          ∙ sym (append_assoc (mark i t) (things (whose i t) (fitting_part spelling left f) ++ []) (e.0 ++ things i a))
          ∙ ap (λ g. things i g ++ (e.0 ++ things i a)) (sym (fitting_part_cut spelling room t f a x y)),
    ))
    (cases_Bool (all_fits spelling left f)))
    (λ x. (things i (element t f a), ap (λ g. things i g ++ things i (element t f a)) (sym (fitting_part_stop spelling room t f a x))))
    (cases_Bool (leb (size spelling t) room))

pub first_taken : (i room : ℕ) (f : Forest Tag) → things i (fitting_part spelling room f) ≡ take (length (things i (fitting_part spelling room f))) (things i f)
first_taken i room f =
    let e = kept_first i room f in
    sym (ap (take (length (things i (fitting_part spelling room f)))) e.1 ∙ take-append_seam (things i (fitting_part spelling room f)) e.0)
