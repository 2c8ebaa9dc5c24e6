-- The run that a GraphML reader sees in a file: its keys, its parties, their happenings and the
-- edges.
use Rattle.std.specs.Prelude.{ℕ, ◌==◌, ◌&&◌, Bool, true, false, List, [], ◌∷◌, ◌++◌, Some, None, Option, codes, bytes_eq, if◌then◌else◌}
use Rattle.std.specs.List.{flat_map}
use Rattle.protocol.specs.declared.happening.HappeningKind.{HappeningKind}
use Rattle.protocol.specs.declared.happening.HappeningKind.TheVariants.{Sent, Arrived, Lost, Enrolled, Struck, Crashed, Stopped, Left, Joining, Leaving}
use Rattle.protocol.specs.Beats.{Edge, edge}
use Rattle.markup.specs.Marks.{Attribute}
use Rattle.markup.specs.Closing.{Content, tree}
use Rattle.markup.specs.Reading.{Reader, value_at, id_of, number_in, number_behind, each_in, text_in, sole_text, in_tree}

-- a happening as a file shows it
pub record Entry : Type 0 where
  pub place : ℕ
  pub tick : ℕ
  pub kind : HappeningKind

-- a happening of a party, or an edge
pub data Item : Type 0 where
  happened : (party : ℕ) → Entry → Item
  joined : Edge → Item

-- i where an id is p<i>, and k where it is h<k>
abbrev pub party_named : List ℕ → Option ℕ
party_named = number_behind 112

abbrev pub place_named : List ℕ → Option ℕ
place_named = number_behind 104

abbrev pub kind_named : List ℕ → Option HappeningKind
kind_named t =
    if bytes_eq t (codes "sent") then Some Sent else
    (if bytes_eq t (codes "arrived") then Some Arrived else
    (if bytes_eq t (codes "lost") then Some Lost else
    (if bytes_eq t (codes "enrolled") then Some Enrolled else
    (if bytes_eq t (codes "struck") then Some Struck else
    (if bytes_eq t (codes "crashed") then Some Crashed else
    (if bytes_eq t (codes "stopped") then Some Stopped else
    (if bytes_eq t (codes "left") then Some Left else
    (if bytes_eq t (codes "joining") then Some Joining else
    (if bytes_eq t (codes "leaving") then Some Leaving else None)))))))))

-- the text of a datum of that key
abbrev pub datum_text : List ℕ → Reader (List ℕ)
datum_text k n xs inside =
    if bytes_eq n (codes "data") && bytes_eq (value_at (codes "key") xs) k
    then text_in inside ∷ [] else []

-- the text of the one datum of that key
abbrev pub datum : List ℕ → Content → List ℕ
datum k c = sole_text (each_in (datum_text k) c)

abbrev pub happening : Option ℕ → Option ℕ → Option ℕ → Option HappeningKind → Option Item
happening (Some i) (Some k) (Some t) (Some w) =
    Some (happened i (record { place = k; tick = t; kind = w }))
happening _ _ _ _ = None

abbrev pub join : Option ℕ → Option ℕ → Option Item
join (Some a) (Some b) = Some (joined (edge a b))
join _ _ = None

abbrev pub is_datum : List ℕ → List Attribute → Content → List Bool
is_datum n xs inside = bytes_eq n (codes "data") ∷ []

abbrev pub are_two : List Bool → Bool
are_two (true ∷ true ∷ []) = true
are_two _ = false

-- a happening of party i is a node that holds two data alone, its tick and its kind
abbrev pub happening_told : Option ℕ → List Attribute → Content → Option Item
happening_told i xs inside =
    if are_two (each_in is_datum inside)
    then happening i (place_named (id_of xs)) (number_in (datum (codes "t") inside))
    (kind_named (datum (codes "k") inside))
    else None

abbrev pub edge_told : List Attribute → Option Item
edge_told xs =
    join (place_named (value_at (codes "source") xs)) (place_named (value_at (codes "target") xs))

abbrev pub is_directed : List Attribute → Bool
is_directed xs = bytes_eq (value_at (codes "edgedefault") xs) (codes "directed")

-- an inner graph has the id of the node that it stands in, and a colon
abbrev pub is_inner_graph : (id : List ℕ) → List ℕ → List Attribute → Bool
is_inner_graph id n xs =
    bytes_eq n (codes "graph") && bytes_eq (id_of xs) (id ++ codes ":") && is_directed xs

-- right in party i's inner graph: its happenings, and nothing else
abbrev pub graph_item : Option ℕ → Reader (Option Item)
graph_item i n xs inside =
    (if bytes_eq n (codes "node") then happening_told i xs inside else None) ∷ []

-- right in the node of that id: its inner graph, and nothing else
abbrev pub node_items : (id : List ℕ) → Reader (Option Item)
node_items id n xs inside =
    if is_inner_graph id n xs then each_in (graph_item (party_named id)) inside else None ∷ []

-- right in the graph of the whole: the parties' nodes and the edges, and nothing else
abbrev pub run_items : Reader (Option Item)
run_items n xs inside =
    if bytes_eq n (codes "node") then each_in (node_items (id_of xs)) inside
    else ((if bytes_eq n (codes "edge") then edge_told xs else None) ∷ [])

abbrev pub graphml_space : List ℕ
graphml_space = codes "http://graphml.graphdrawing.org/xmlns"

-- what f reads of each element right in the outermost, where that is GraphML's
abbrev pub in_file : {A : Type 0} → Reader A → Reader A
in_file f n xs inside =
    if bytes_eq n (codes "graphml") && bytes_eq (value_at (codes "xmlns") xs) graphml_space
    then each_in f inside else []

-- what f reads of each element right in the graph of the whole
abbrev pub in_run : {A : Type 0} → Reader A → Reader A
in_run f n xs inside =
    if bytes_eq n (codes "graph") && bytes_eq (id_of xs) (codes "run") && is_directed xs
    then each_in f inside else []

-- the happenings and the edges in file order; None for what is neither
unfoldable pub items_read : List ℕ → List (Option Item)
items_read bs = in_tree (in_file (in_run run_items)) (tree bs)

abbrev pub happening_of : ℕ → Option Item → List (Option Entry)
happening_of i None = None ∷ []
happening_of i (Some (happened j e)) = if j == i then Some e ∷ [] else []
happening_of i (Some (joined e)) = []

abbrev pub place_of : Option Item → List ℕ
place_of None = []
place_of (Some (happened i e)) = e.place ∷ []
place_of (Some (joined e)) = []

abbrev pub edge_of : Option Item → List (Option Edge)
edge_of None = None ∷ []
edge_of (Some (happened i e)) = []
edge_of (Some (joined e)) = Some e ∷ []

-- the happenings of party i among these, the places of all happenings, and the edges
abbrev pub happenings_read : ℕ → List ℕ → List (Option Entry)
happenings_read i bs = flat_map (happening_of i) (items_read bs)

abbrev pub places_read : List ℕ → List ℕ
places_read bs = flat_map place_of (items_read bs)

abbrev pub edges_read : List ℕ → List (Option Edge)
edges_read bs = flat_map edge_of (items_read bs)

-- whether an element is the inner graph of the node of that id
abbrev pub inner_graph : (id : List ℕ) → Reader Bool
inner_graph id n xs inside = is_inner_graph id n xs ∷ []

-- a party's number, if its node holds its inner graph alone
abbrev pub party_told : List ℕ → List Bool → Option ℕ
party_told id (true ∷ []) = party_named id
party_told id _ = None

abbrev pub party_item : Reader (Option ℕ)
party_item n xs inside =
    if bytes_eq n (codes "node")
    then party_told (id_of xs) (each_in (inner_graph (id_of xs)) inside) ∷ [] else []

-- the parties in file order
unfoldable pub parties_read : List ℕ → List (Option ℕ)
parties_read bs = in_tree (in_file (in_run party_item)) (tree bs)

-- what a key line says: the key's id, of what it is, and the name and the type of its data
pub record Key : Type 0 where
  pub id : List ℕ
  pub of : List ℕ
  pub name : List ℕ
  pub type : List ℕ

abbrev pub key : List ℕ → List ℕ → List ℕ → List ℕ → Key
key id of name type = record { id = id; of = of; name = name; type = type }

-- right in the outermost element: the keys and the graph of the whole, and nothing else
abbrev pub key_item : Reader (Option Key)
key_item n xs inside =
    if bytes_eq n (codes "key")
    then Some (key (id_of xs) (value_at (codes "for") xs)
    (value_at (codes "attr.name") xs) (value_at (codes "attr.type") xs)) ∷ []
    else (if bytes_eq n (codes "graph") then [] else None ∷ [])

unfoldable pub keys_read : List ℕ → List (Option Key)
keys_read bs = in_tree (in_file key_item) (tree bs)

-- the keys of the data of a happening: its tick, and its kind
abbrev pub happening_keys : List (Option Key)
happening_keys =
    Some (key (codes "t") (codes "node") (codes "tick") (codes "long"))
    ∷ Some (key (codes "k") (codes "node") (codes "what") (codes "string")) ∷ []

-- the ids of the graphs right in the outermost element
abbrev pub graph_id : List ℕ → List Attribute → Content → List (List ℕ)
graph_id n xs inside = if bytes_eq n (codes "graph") then id_of xs ∷ [] else []

unfoldable pub graphs_read : List ℕ → List (List ℕ)
graphs_read bs = in_tree (in_file graph_id) (tree bs)
