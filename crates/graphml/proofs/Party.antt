-- A party that is begun, as far as it fits.
use Rattle.std.proofs.Common.{◌≡◌, ℕ, ◌+◌, ◌^◌, ◌<◌, ◌≤◌, true, false, List, length, sym, refl, ap, ◌∙◌, subst, arith}
use Rattle.protocol.specs.declared.happening.Happening.{Happening}
use Rattle.graphml.specs.Elements.{Tag, spelling, node, graph}
use Rattle.graphml.specs.Body.{happenings_of, party_then}
use Rattle.graphml.specs.Texts.{node_end, graph_end, node_line, graph_line}
use Rattle.graphml.specs.Writer.{Writer, Sound, after_text, after_opening, after_fitting}
use Rattle.graphml.specs.Numbers.{Fits}
use Rattle.graphml.proofs.Forests.{stops, framed}
use Rattle.graphml.proofs.Sounds.{sound_opened}
use Rattle.markup.proofs.Kept.{fitting_part_stop, each_begun}
use Rattle.markup.specs.Cut.{fitting_part}
use Rattle.markup.specs.Held.{has_room}
use Rattle.markup.specs.Forests.{Forest, none, element, Each}

module _ {s n : Writer} (i : ℕ) (hs : List Happening) (h : Sound s 20) (p : true ≡ has_room s.out (node_line i) 8) (e : n ≡ after_opening s (node_line i) 8) where
  abbrev inner : Forest Tag
  inner = element (graph i) (happenings_of i 0 hs) none

  abbrev o : Writer
  o = after_opening s (node_line i) 8

  open_room : o.out.at + o.out.room ≤ length o.out.bytes
  open_room = let k = sound_opened s (node_line i) 8 20 h (sym p) in omega arith

  begun : after_fitting s (party_then hs i none) ≡ after_text (after_fitting o inner) node_end
  begun = framed s (node i) inner (omega arith) refl refl (sym p)

  pub no_graph : {u v : Writer} → false ≡ has_room n.out (graph_line i) 9 → u ≡ n → v ≡ after_text u node_end → v ≡ after_fitting s (party_then hs i none)
  no_graph q f g =
      let x = stops o (graph i) (happenings_of i 0 hs) none (sym (q ∙ ap (λ t. has_room t.out (graph_line i) 9) e)) in
      g ∙ ap (λ t. after_text t node_end) (f ∙ e ∙ sym x) ∙ sym begun

  pub all_in : {u v x y : Writer} → true ≡ has_room n.out (graph_line i) 9 → u ≡ after_opening n (graph_line i) 9 → v ≡ after_fitting u (happenings_of i 0 hs) → x ≡ after_text v graph_end → y ≡ after_text x node_end → y ≡ after_fitting s (party_then hs i none)
  all_in q f d g k =
      let z = framed o (graph i) (happenings_of i 0 hs) open_room refl refl (sym (q ∙ ap (λ t. has_room t.out (graph_line i) 9) e)) in
      let b = f ∙ ap (λ t. after_opening t (graph_line i) 9) e in
      k ∙ ap (λ t. after_text t node_end) (g ∙ ap (λ t. after_text t graph_end) (d ∙ ap (λ t. after_fitting t (happenings_of i 0 hs)) b) ∙ sym z) ∙ sym begun

  -- what fits of what is inside the node
  node_numbers : i < 2 ^ 64 → Each Fits (fitting_part spelling o.out.room inner) → Each Fits (fitting_part spelling s.out.room (party_then hs i none))
  node_numbers small inside = each_begun spelling Fits s.out.room (node i) inner (sym p) small inside

  pub no_graph_numbers : i < 2 ^ 64 → false ≡ has_room n.out (graph_line i) 9 → Each Fits (fitting_part spelling s.out.room (party_then hs i none))
  no_graph_numbers small q =
      node_numbers small (subst (Each Fits) (sym (fitting_part_stop spelling o.out.room (graph i) (happenings_of i 0 hs) none (sym (q ∙ ap (λ t. has_room t.out (graph_line i) 9) e)))) tt)

  pub all_numbers : {u : Writer} → i < 2 ^ 64 → true ≡ has_room n.out (graph_line i) 9 → u ≡ after_opening n (graph_line i) 9 → Each Fits (fitting_part spelling u.out.room (happenings_of i 0 hs)) → Each Fits (fitting_part spelling s.out.room (party_then hs i none))
  all_numbers {u} small q f inside =
      let b = f ∙ ap (λ t. after_opening t (graph_line i) 9) e in
      node_numbers small
      (each_begun spelling Fits o.out.room (graph i) (happenings_of i 0 hs) (sym (q ∙ ap (λ t. has_room t.out (graph_line i) 9) e)) tt
      (subst (λ (t : Writer). Each Fits (fitting_part spelling t.out.room (happenings_of i 0 hs))) b inside))
