-- Where the elements of the file may stand, and what holds of each of them; what is written of a forest keeps both.
use Rattle.std.proofs.Common.{◌≡◌, ℕ, zero, suc, ◌+◌, ◌-◌, Bool, cond, leb, List, [], ◌∷◌, refl}
use Rattle.protocol.specs.declared.happening.Happening.{Happening}
use Rattle.graphml.specs.Elements.{spelling, Tag, run, node, graph, happened, edge}
use Rattle.graphml.specs.Body.{is_owned, is_arrival, arrival_edge, lines_of, parties_from, body}
use Rattle.markup.proofs.Kept.{chosen}
use Rattle.markup.specs.Cut.{size, cost, fitting_part, all_fits}
use Rattle.markup.specs.Forests.{Forest, none, element}

-- where an element stands: right in the graph of the whole, in a party's node, in a party's graph, or in a line
pub data Where : Type 0 where
  in_run : Where
  in_node : ℕ → Where
  in_graph : ℕ → Where
  in_line : Where

abbrev pub Stands : Where → Tag → Type 0
Stands in_line t = ⊥
Stands in_run run = ⊥
Stands in_run (node i) = Unit {0}
Stands in_run (graph i) = ⊥
Stands in_run (happened k h) = ⊥
Stands in_run (edge a b) = Unit {0}
Stands (in_node j) run = ⊥
Stands (in_node j) (node i) = ⊥
Stands (in_node j) (graph i) = j ≡ i
Stands (in_node j) (happened k h) = ⊥
Stands (in_node j) (edge a b) = ⊥
Stands (in_graph j) run = ⊥
Stands (in_graph j) (node i) = ⊥
Stands (in_graph j) (graph i) = ⊥
Stands (in_graph j) (happened k h) = Unit {0}
Stands (in_graph j) (edge a b) = ⊥

abbrev pub within : Tag → Where
within run = in_run
within (node i) = in_node i
within (graph i) = in_graph i
within (happened k h) = in_line
within (edge a b) = in_line

abbrev pub Shaped : Where → Forest Tag → Type 0
Shaped w none = Unit {0}
Shaped w (element t i a) = Stands w t × Shaped (within t) i × Shaped w a

pub kept_shaped : (w : Where) (room : ℕ) (f : Forest Tag) → Shaped w f → Shaped w (fitting_part spelling room f)
kept_shaped w room none h = tt
kept_shaped w room (element t i a) h =
    let left : ℕ = room - size spelling t in
    let on : Forest Tag = element t i (fitting_part spelling (left - cost spelling i) a) in
    let cut : Forest Tag = element t (fitting_part spelling left i) none in
    chosen (Shaped w) (leb (size spelling t) room) (cond (all_fits spelling left i) on cut) none
    (chosen (Shaped w) (all_fits spelling left i) on cut (h.0, h.1, kept_shaped w (left - cost spelling i) a h.2) (h.0, kept_shaped (within t) left i h.1, tt)) tt

lines_shaped : (w : Where) (pick : Happening → Bool) (tag : ℕ → Happening → Tag) → ((k : ℕ) (h : Happening) → Stands w (tag k h)) → (k : ℕ) (hs : List Happening) → Shaped w (lines_of pick tag k hs)
lines_shaped w pick tag f k [] = tt
lines_shaped w pick tag f k (h ∷ hs) =
    let r : Shaped w (lines_of pick tag (k + 1) hs) = lines_shaped w pick tag f (k + 1) hs in
    chosen (Shaped w) (pick h) (element (tag k h) none (lines_of pick tag (k + 1) hs)) (lines_of pick tag (k + 1) hs) (f k h, tt, r) r

parties_shaped : (log : List Happening) (i m : ℕ) → Shaped in_run (parties_from log i m)
parties_shaped log i zero = lines_shaped in_run is_arrival arrival_edge (λ k h. tt) 0 log
parties_shaped log i (suc m) =
    (tt, (refl, lines_shaped (in_graph i) (is_owned i) happened (λ k h. tt) 0 log, tt), parties_shaped log (i + 1) m)

pub body_shaped : (log : List Happening) (n : ℕ) → Shaped in_run (body log n)
body_shaped log n = parties_shaped log 0 (n + 1)
