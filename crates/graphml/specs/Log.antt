-- What a reader is to find of a log in its file.
use Rattle.std.specs.Prelude.{◌≡◌, ℕ, zero, suc, ◌+◌, ◌<◌, ◌≤◌, cond, ◌==◌, true, List, [], ◌∷◌, ◌++◌, map, length, take, codes, Some, None, Option}
use Rattle.std.specs.List.{All}
use Rattle.protocol.specs.declared.happening.Happening.{Happening}
use Rattle.protocol.specs.Beats.{Edge, edges, Linked}
use Rattle.protocol.specs.Order.{OwnedUpTo}
use Rattle.graphml.specs.declared.answer.Exported.{Exported}
use Rattle.graphml.specs.Reading.{Entry, Item, happened, joined, items_read, happenings_read, edges_read, places_read, parties_read, keys_read, happening_keys, graphs_read}

abbrev pub entry : ℕ → Happening → Entry
entry k h = record { place = k; tick = h.tick; kind = h.kind }

-- party i's records among hs, which stand in the log from place k on
abbrev pub entries : ℕ → ℕ → List Happening → List Entry
entries i k [] = []
entries i k (h ∷ hs) = cond (h.owner == i) (entry k h ∷ entries i (k + 1) hs) (entries i (k + 1) hs)

-- the records of m parties from i on, party by party, and then the edges
abbrev pub items_from : List Happening → ℕ → ℕ → List Item
items_from log i zero = map joined (edges 0 log)
items_from log i (suc m) = map (happened i) (entries i 0 log) ++ items_from log (i + 1) m

-- of the parties 0 to n
abbrev pub items_of : ℕ → List Happening → List Item
items_of n log = items_from log 0 (n + 1)

-- m numbers from i on
abbrev pub numbers : ℕ → ℕ → List ℕ
numbers i zero = []
numbers i (suc m) = i ∷ numbers (i + 1) m

-- how many of these are k
abbrev pub occurrences : ℕ → List ℕ → ℕ
occurrences k [] = 0
occurrences k (j ∷ js) = cond (j == k) 1 0 + occurrences k js

-- both ends of an edge that was read are happenings in the file, each there once
abbrev pub HasBothEnds : List ℕ → Option Edge → Type 0
HasBothEnds bs None = ⊥
HasBothEnds bs (Some e) =
    (occurrences e.source (places_read bs) ≡ 1) × (occurrences e.target (places_read bs) ≡ 1)

-- every one of these, and each as it is
abbrev pub all_read : {A : Type 0} → List A → List (Option A)
all_read xs = map (λ x. Some x) xs

-- what a file shows of a log of the parties 0 to n: bs are its bytes, x the answer
pub record ShowsTheLog (n : ℕ) (log : List Happening) (x : Exported) (bs : List ℕ) : Type 0 where
  -- whole or cut, it has the first of the log's happenings and edges, as many as are answered
  pub first_part : items_read bs ≡ all_read (take (x.happenings + x.edges) (items_of n log))
  pub all_counted : length (items_read bs) ≡ x.happenings + x.edges
  pub edges_counted : length (edges_read bs) ≡ x.edges
  pub keys : keys_read bs ≡ happening_keys
  pub one_graph : graphs_read bs ≡ codes "run" ∷ []
  -- a place is read from its node's id: no such id stands twice
  pub no_place_twice : (k : ℕ) → occurrences k (places_read bs) ≤ 1
  -- whole, it has the parties 0 to n, of each its records, and the edges of the arrivals, all in
  -- their order
  pub parties : x.whole ≡ true → parties_read bs ≡ all_read (numbers 0 (n + 1))
  pub happenings :
      x.whole ≡ true → (i : ℕ) → i ≤ n → happenings_read i bs ≡ all_read (entries i 0 log)
  pub edges : x.whole ≡ true → edges_read bs ≡ all_read (edges 0 log)
  pub no_others : x.whole ≡ true → items_read bs ≡ all_read (items_of n log)
  -- and so each place of the log stands once
  pub each_place_once :
      x.whole ≡ true → OwnedUpTo n log → (k : ℕ) → k < length log → occurrences k (places_read bs) ≡ 1
  pub edges_have_both_ends :
      x.whole ≡ true → OwnedUpTo n log → Linked n log → All (HasBothEnds bs) (edges_read bs)
