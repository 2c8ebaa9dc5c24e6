-- What is written of a forest, element by element.
use Rattle.std.proofs.Common.{◌≡◌, ℕ, ◌+◌, ◌≤◌, true, false, length, sym, ap, ◌∙◌, add-zero, arith, leb-false}
use borrow.Author.Tests.{lt-leb}
use Rattle.markup.specs.Forests.{Forest, none, element, count}
use Rattle.markup.specs.Cut.{all_fits, fitting_part}
use Rattle.markup.specs.Held.{has_room}
use Rattle.markup.proofs.Kept.{fitting_part_stop, kept_first, count_on, count_begun}
use Rattle.markup.proofs.Filling.{with_none, first_whole as held_first_whole, framed as held_framed, room_left}
use Rattle.graphml.specs.Elements.{spelling, Tag, opening, closing}
use Rattle.graphml.specs.Counts.{is_happening, is_edge}
use Rattle.graphml.specs.Writer.{Writer, after_text, after_opening, after_forest, after_fitting}

-- two states with equal parts
pub same_state : {s t : Writer} → s.out ≡ t.out → s.happenings ≡ t.happenings → s.edges ≡ t.edges → s ≡ t
same_state o h e = λ i. record { out = o i; happenings = h i; edges = e i }

drawn_none : (s : Writer) → after_fitting s none ≡ s
drawn_none s = same_state (with_none spelling s.out) (add-zero _) (add-zero _)

pub stops : (s : Writer) (t : Tag) (i a : Forest Tag) → has_room s.out (opening t) (length (closing t)) ≡ false →
    after_fitting s (element t i a) ≡ s
stops s t i a p = ap (after_forest s) (fitting_part_stop spelling s.out.room t i a p) ∙ drawn_none s

-- what comes after an element
module _ (s : Writer) (t : Tag) (i a : Forest Tag) (sound : s.out.at + s.out.room ≤ length s.out.bytes) where
  abbrev first : Forest Tag
  first = element t i none

  pub first_whole : all_fits spelling s.out.room first ≡ true →
      (after_fitting s (element t i a) ≡ after_fitting (after_fitting s first) a)
      × (all_fits spelling s.out.room (element t i a) ≡ all_fits spelling (after_fitting s first).out.room a)
  first_whole p =
      let x = held_first_whole spelling s.out t i a sound p in
      let counts : (of : Tag → ℕ) → count of (fitting_part spelling s.out.room (element t i a)) ≡ count of (fitting_part spelling s.out.room first) + count of (fitting_part spelling (after_fitting s first).out.room a) =
      λ of. count_on spelling of s.out.room t i a p ∙ ap (λ k. count of (fitting_part spelling s.out.room first) + count of (fitting_part spelling k a)) (sym (room_left spelling s.out t i p)) in
      let h = counts is_happening in
      let e = counts is_edge in
      (same_state x.0 (omega arith) (omega arith), x.1)

  pub first_cut : all_fits spelling s.out.room first ≡ false →
      (after_fitting s (element t i a) ≡ after_fitting s first) × (all_fits spelling s.out.room (element t i a) ≡ false)
  first_cut p = (ap (after_forest s) (kept_first spelling s.out.room t i a p), let h = leb-false _ _ p in lt-leb _ _ (omega arith))

-- an element that is not counted, and is begun, ends as its inside does, closed
pub framed : (s : Writer) (t : Tag) (i : Forest Tag) → s.out.at + s.out.room ≤ length s.out.bytes → is_happening t ≡ 0 → is_edge t ≡ 0 →
    has_room s.out (opening t) (length (closing t)) ≡ true →
    after_fitting s (element t i none) ≡ after_text (after_fitting (after_opening s (opening t) (length (closing t))) i) (closing t)
framed s t i sound p q f =
    let h = count_begun spelling is_happening s.out.room t i f in
    let e = count_begun spelling is_edge s.out.room t i f in
    same_state (held_framed spelling s.out t i none sound f) (omega arith) (omega arith)
