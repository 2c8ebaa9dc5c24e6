-- The first element that does not fit.
use Rattle.std.proofs.Common.{◌≡◌, ℕ, ◌+◌, ◌-◌, ◌<◌, false, leb, ◌∷◌, ◌++◌, sym, ap, subst, ⊎_elim, append_assoc, append-nil, ◌∙◌, arith, leb-false, leb-true}
use borrow.Author.Tests.{lt-leb}
use Rattle.std.proofs.lemmas.Bool.{cases_Bool}
use Rattle.markup.specs.Forests.{Spelling, Forest, none, element}
use Rattle.markup.specs.Cut.{size, cost, fitting_part, all_fits, elements, EndsAt}
use Rattle.markup.proofs.Kept.{fitting_part_stop, fitting_part_cut, fitting_part_on}

module _ {T : Type 0} (w : Spelling T) where
  pub ends_at : (room : ℕ) (f : Forest T) → all_fits w room f ≡ false → EndsAt w room f
  ends_at room none p = absurd (let h = leb-false 0 room p in omega arith)
  ends_at room (element t i a) p =
      let h = leb-false _ _ p in
      let left : ℕ = room - size w t in
      ⊎_elim
      (λ x.
      let hx = leb-true _ _ x in
      ⊎_elim
      (λ y.
      let hy = leb-true _ _ y in
      let k = fitting_part_on w room t i a x y in
      let e = ends_at (left - cost w i) a (lt-leb _ _ (omega arith)) in
      let full = e.full in
      record {
        next = e.next;
        rest = e.rest;
        order = ap (λ l. t ∷ (elements i ++ l)) e.order ∙ ap (λ l. t ∷ l) (sym (append_assoc (elements i) (elements (fitting_part w (left - cost w i) a)) (e.next ∷ e.rest))) ∙ ap (λ g. elements g ++ (e.next ∷ e.rest)) (sym k);
        full = subst (λ g. room < cost w g + size w e.next) (sym k) (omega arith);
      })
      (λ y.
      let k = fitting_part_cut w room t i a x y in
      let e = ends_at left i y in
      let full = e.full in
      record {
        next = e.next;
        rest = e.rest ++ elements a;
        order = ap (λ l. t ∷ (l ++ elements a)) e.order ∙ ap (λ l. t ∷ l) (append_assoc (elements (fitting_part w left i)) (e.next ∷ e.rest) (elements a) ∙ ap (λ l. l ++ (e.next ∷ (e.rest ++ elements a))) (sym (append-nil (elements (fitting_part w left i))))) ∙ ap (λ g. elements g ++ (e.next ∷ (e.rest ++ elements a))) (sym k);
        full = subst (λ g. room < cost w g + size w e.next) (sym k) (omega arith);
      })
      (cases_Bool (all_fits w left i)))
      (λ x.
      let hx = leb-false _ _ x in
      let k = fitting_part_stop w room t i a x in
      record {
        next = t;
        rest = elements i ++ elements a;
        order = ap (λ g. elements g ++ (t ∷ (elements i ++ elements a))) (sym k);
        full = subst (λ g. room < cost w g + size w t) (sym k) (omega arith);
      })
      (cases_Bool (leb (size w t) room))
