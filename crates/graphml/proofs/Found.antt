-- What is read of a log's file is the log: its records party by party, and the edges of its arrivals.
use Rattle.std.proofs.Common.{◌≡◌, ℕ, zero, suc, ◌+◌, ◌^◌, ◌<◌, ◌≤◌, ◌==◌, Bool, true, false, cond, List, [], ◌∷◌, ◌++◌, map, codes, decimal, Some, Option, refl, sym, ap, ◌∙◌, append_assoc, append-nil, add-one, ne_eqb, eqb-true, ⊎_elim, arith}
use Rattle.std.specs.List.{flat_map}
use Rattle.std.proofs.lemmas.Bool.{cases_Bool, eqb-false}
use Rattle.std.proofs.lemmas.Grind.{flat_map-append}
use Rattle.std.proofs.lemmas.List.{map-append}
use Rattle.protocol.specs.declared.happening.Happening.{Happening}
use Rattle.protocol.specs.declared.happening.HappeningKind.{HappeningKind}
use Rattle.protocol.specs.declared.happening.HappeningKind.TheVariants.{Sent, Arrived, Lost, Enrolled, Struck, Crashed, Stopped, Left, Joining, Leaving}
use Rattle.protocol.specs.Beats.{Edge, edges, edge as arc, is_arrival as arrives}
use Rattle.graphml.specs.Elements.{spelling, Tag, graph, happened as tag_happened, edge as tag_edge}
use Rattle.graphml.specs.Body.{is_owned, is_arrived, is_arrival, arrival_edge, lines_of, happenings_of, edges_from, parties_from, body}
use Rattle.graphml.specs.Answer.{in_frame}
use Rattle.markup.specs.Closing.{Content, empty, element as holds, Closes}
use Rattle.graphml.specs.Reading.{Entry, Item, happened, joined, happening_of, place_of, edge_of, party_item, parties_read, keys_read, happening_keys, graphs_read}
use Rattle.graphml.specs.Log.{entry, entries, items_from, items_of, numbers, all_read}
use Rattle.markup.specs.Reading.{each_in}
use Rattle.markup.proofs.Nesting.{fed}
use Rattle.markup.proofs.Back.{same_bytes, number_decimal}
use Rattle.graphml.proofs.Scanned.{node_attrs, edge_attrs}
use Rattle.graphml.proofs.Growing.{Framed, put, frame_grown}
use Rattle.graphml.proofs.Told.{things, read}
use Rattle.markup.proofs.Kept.{chosen, fitting_part_each}
use Rattle.markup.specs.Cut.{fitting_part}
use Rattle.markup.specs.Forests.{Forest, none, element, Each}

lines_framed : (pick : Happening → Bool) (tag : ℕ → Happening → Tag) → ((k : ℕ) (h : Happening) → Framed (tag k h)) → (k : ℕ) (hs : List Happening) → Each Framed (lines_of pick tag k hs)
lines_framed pick tag f k [] = tt
lines_framed pick tag f k (h ∷ hs) =
    let r : Each Framed (lines_of pick tag (k + 1) hs) = lines_framed pick tag f (k + 1) hs in
    chosen (Each Framed) (pick h) (element (tag k h) none (lines_of pick tag (k + 1) hs)) (lines_of pick tag (k + 1) hs) (f k h, tt, r) r

parties_framed : (log : List Happening) (i m : ℕ) → Each Framed (parties_from log i m)
parties_framed log i zero = lines_framed is_arrival arrival_edge (λ k h. tt) 0 log
parties_framed log i (suc m) =
    (tt, (tt, lines_framed (is_owned i) tag_happened (λ k h. tt) 0 log, tt), parties_framed log (i + 1) m)

pub body_framed : (log : List Happening) (n : ℕ) → Each Framed (body log n)
body_framed log n = parties_framed log 0 (n + 1)

-- what is written of the body closes
pub part_closes : (log : List Happening) (n room : ℕ) → Closes (in_frame (fitting_part spelling room (body log n)))
part_closes log n room = rw (frame_grown (fitting_part spelling room (body log n)) (fitting_part_each spelling Framed room (body log n) (body_framed log n))) refl

same_test : (kind : HappeningKind) → is_arrived kind ≡ arrives kind
same_test Sent = refl
same_test Arrived = refl
same_test Lost = refl
same_test Enrolled = refl
same_test Struck = refl
same_test Crashed = refl
same_test Stopped = refl
same_test Left = refl
same_test Joining = refl
same_test Leaving = refl

happenings_are : (i k : ℕ) (hs : List Happening) → things i (happenings_of i k hs) ≡ map (happened i) (entries i k hs)
happenings_are i k [] = refl
happenings_are i k (h ∷ hs) =
    let after : Forest Tag = happenings_of i (k + 1) hs in
    let rest : List Entry = entries i (k + 1) hs in
    elim (h.owner == i) as (λ (b : Bool). things i (cond b (element (tag_happened k h) none after) after) ≡ map (happened i) (cond b (entry k h ∷ rest) rest)) [
      | true ↦ ap (λ (l : List Item). happened i (entry k h) ∷ l) (happenings_are i (k + 1) hs)
      | false ↦ happenings_are i (k + 1) hs
    ]

edges_are : (k : ℕ) (hs : List Happening) → things 0 (edges_from k hs) ≡ map joined (edges k hs)
edges_are k [] = refl
edges_are k (h ∷ hs) =
    let next : things 0 (edges_from (k + 1) hs) ≡ map joined (edges (suc k) hs) = edges_are (k + 1) hs ∙ ap (λ (j : ℕ). map joined (edges j hs)) (add-one k) in
    let F : Bool → List Item = λ b. map joined (cond b (arc h.link k ∷ edges (suc k) hs) (edges (suc k) hs)) in
    (elim (is_arrival h) as (λ (b : Bool). things 0 (cond b (element (tag_edge h.link k) none (edges_from (k + 1) hs)) (edges_from (k + 1) hs)) ≡ F b) [
      | true ↦ ap (λ (l : List Item). joined (arc h.link k) ∷ l) next
      | false ↦ next
    ]) ∙ ap F (same_test h.kind)

parties_are : (log : List Happening) (i m : ℕ) → things 0 (parties_from log i m) ≡ items_from log i m
parties_are log i zero = edges_are 0 log
parties_are log i (suc m) =
    ap (λ (l : List Item). l ++ things 0 (parties_from log (i + 1) m)) (append-nil (things i (happenings_of i 0 log)) ∙ happenings_are i 0 log)
    ∙ ap (λ (l : List Item). map (happened i) (entries i 0 log) ++ l) (parties_are log (i + 1) m)

pub body_is : (log : List Happening) (n : ℕ) → things 0 (body log n) ≡ items_of n log
body_is log n = parties_are log 0 (n + 1)

-- the edges among the items of a log
none_of_these : (i : ℕ) (es : List Entry) → flat_map edge_of (read (map (happened i) es)) ≡ []
none_of_these i [] = refl
none_of_these i (e ∷ es) = none_of_these i es

all_of_these : (es : List Edge) → flat_map edge_of (read (map joined es)) ≡ all_read es
all_of_these [] = refl
all_of_these (e ∷ es) = ap (λ (l : List (Option Edge)). Some e ∷ l) (all_of_these es)

-- what f finds among the items of two lists, one after the other
split : {A : Type 0} (f : Option Item → List (Option A)) (xs ys : List Item) → flat_map f (read (xs ++ ys)) ≡ flat_map f (read xs) ++ flat_map f (read ys)
split f xs ys = ap (flat_map f) (map-append (λ x. Some x) xs ys) ∙ flat_map-append f (read xs) (read ys)

pub split_places : (xs ys : List Item) → flat_map place_of (read (xs ++ ys)) ≡ flat_map place_of (read xs) ++ flat_map place_of (read ys)
split_places xs ys = ap (flat_map place_of) (map-append (λ x. Some x) xs ys) ∙ flat_map-append place_of (read xs) (read ys)

edges_of_items : (log : List Happening) (i m : ℕ) → flat_map edge_of (read (items_from log i m)) ≡ all_read (edges 0 log)
edges_of_items log i zero = all_of_these (edges 0 log)
edges_of_items log i (suc m) =
    split edge_of (map (happened i) (entries i 0 log)) (items_from log (i + 1) m)
    ∙ ap (λ (l : List (Option Edge)). l ++ flat_map edge_of (read (items_from log (i + 1) m))) (none_of_these i (entries i 0 log))
    ∙ edges_of_items log (i + 1) m

pub edges_found : (n : ℕ) (log : List Happening) → flat_map edge_of (read (items_of n log)) ≡ all_read (edges 0 log)
edges_found n log = edges_of_items log 0 (n + 1)

-- the happenings of party i among them
module _ (i : ℕ) where
  no_edge : (es : List Edge) → flat_map (happening_of i) (read (map joined es)) ≡ []
  no_edge [] = refl
  no_edge (e ∷ es) = no_edge es

  others : (j : ℕ) → (j == i) ≡ false → (es : List Entry) → flat_map (happening_of i) (read (map (happened j) es)) ≡ []
  others j p [] = refl
  others j p (e ∷ es) = rw p (others j p es)

  mine : (j : ℕ) → (j == i) ≡ true → (es : List Entry) → flat_map (happening_of i) (read (map (happened j) es)) ≡ all_read es
  mine j p [] = refl
  mine j p (e ∷ es) = rw p (ap (λ (l : List (Option Entry)). Some e ∷ l) (mine j p es))

  abbrev seen : List Item → List (Option Entry)
  seen xs = flat_map (happening_of i) (read xs)

  past_it : (log : List Happening) (j m : ℕ) → i < j → seen (items_from log j m) ≡ []
  past_it log j zero h = no_edge (edges 0 log)
  past_it log j (suc m) h =
      split (happening_of i) (map (happened j) (entries j 0 log)) (items_from log (j + 1) m)
      ∙ ap (λ (l : List (Option Entry)). l ++ seen (items_from log (j + 1) m)) (others j (ne_eqb j i (λ e. omega arith)) (entries j 0 log))
      ∙ past_it log (j + 1) m (omega arith)

  found : (log : List Happening) (j m : ℕ) → j ≤ i → i < j + m → seen (items_from log j m) ≡ all_read (entries i 0 log)
  found log j zero h k = absurd (omega arith)
  found log j (suc m) h k =
      split (happening_of i) (map (happened j) (entries j 0 log)) (items_from log (j + 1) m)
      ∙ ⊎_elim
      (λ e.
      let same : j ≡ i = eqb-true j i e in
      ap (λ (l : List (Option Entry)). l ++ seen (items_from log (j + 1) m)) (mine j e (entries j 0 log))
      ∙ ap (λ (l : List (Option Entry)). all_read (entries j 0 log) ++ l) (past_it log (j + 1) m (omega arith))
      ∙ append-nil (all_read (entries j 0 log))
      ∙ ap (λ (x : ℕ). all_read (entries x 0 log)) same)
      (λ e.
      let other : j ≡ i → ⊥ = eqb-false j i e in
      ap (λ (l : List (Option Entry)). l ++ seen (items_from log (j + 1) m)) (others j e (entries j 0 log))
      ∙ found log (j + 1) m (omega arith) (omega arith))
      (cases_Bool (j == i))

pub happenings_found : (n : ℕ) (log : List Happening) (i : ℕ) → i ≤ n → flat_map (happening_of i) (read (items_of n log)) ≡ all_read (entries i 0 log)
happenings_found n log i h = found i log 0 (n + 1) (omega arith) (omega arith)

-- the parties read
none_in_edges : (k : ℕ) (hs : List Happening) (c : Content) → each_in party_item (put c (edges_from k hs)) ≡ each_in party_item c
none_in_edges k [] c = refl
none_in_edges k (h ∷ hs) c =
    let after : Forest Tag = edges_from (k + 1) hs in
    elim (is_arrival h) as (λ (b : Bool). each_in party_item (put c (cond b (element (tag_edge h.link k) none after) after)) ≡ each_in party_item c) [
      | true ↦ none_in_edges (k + 1) hs (holds (fed c) (codes "edge") (edge_attrs h.link k) empty) ∙ append-nil (each_in party_item c)
      | false ↦ none_in_edges (k + 1) hs c
    ]

each_seen : (log : List Happening) (j m : ℕ) (c : Content) → j + m ≤ 2 ^ 64 → each_in party_item (put c (parties_from log j m)) ≡ each_in party_item c ++ all_read (numbers j m)
each_seen log j zero c p = none_in_edges 0 log c ∙ sym (append-nil (each_in party_item c))
each_seen log j (suc m) c p =
    let inner : Content = fed (put empty (element (graph j) (happenings_of j 0 log) none)) in
    let its : party_item (codes "node") (node_attrs j) inner ≡ Some j ∷ [] =
    rw (same_bytes ((codes "p" ++ decimal j) ++ codes ":")) (ap (λ (x : Option ℕ). x ∷ []) (number_decimal j (omega arith))) in
    each_seen log (j + 1) m (holds (fed c) (codes "node") (node_attrs j) inner) (omega arith)
    ∙ ap (λ (l : List (Option ℕ)). (each_in party_item c ++ l) ++ all_read (numbers (j + 1) m)) its
    ∙ append_assoc (each_in party_item c) (Some j ∷ []) (all_read (numbers (j + 1) m))

pub parties_found : (log : List Happening) (n : ℕ) → n < 2 ^ 64 → parties_read (in_frame (body log n)) ≡ all_read (numbers 0 (n + 1))
unfolding parties_read
parties_found log n p = rw (frame_grown (body log n) (body_framed log n)) (each_seen log 0 (n + 1) empty (omega arith))

-- the keys and the one graph, whatever that holds
pub keys_found : (f : Forest Tag) → Each Framed f → keys_read (in_frame f) ≡ happening_keys
unfolding keys_read
keys_found f h = rw (frame_grown f h) refl

pub graphs_found : (f : Forest Tag) → Each Framed f → graphs_read (in_frame f) ≡ codes "run" ∷ []
unfolding graphs_read
graphs_found f h = rw (frame_grown f h) refl
