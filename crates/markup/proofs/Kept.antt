-- What is kept of a forest, element by element.
use Rattle.std.proofs.Common.{◌≡◌, ℕ, ◌+◌, ◌-◌, ◌≤◌, Bool, true, false, cond, leb, ◌++◌, length, sym, refl, ap, ◌∙◌, subst, ⊎_elim, arith, length-append, le-leb, leb-false, leb-true}
use borrow.Author.Tests.{lt-leb}
use Rattle.std.proofs.lemmas.Bool.{cases_Bool}
use Rattle.markup.specs.Forests.{Spelling, Forest, none, element, render, count, Each}
use Rattle.markup.specs.Cut.{size, cost, all_fits, fitting_part}

-- a choice has what both have
pub chosen : {A : Type 0} (P : A → Type 0) (b : Bool) (x y : A) → P x → P y → P (cond b x y)
chosen P true x y p q = p
chosen P false x y p q = q

module _ {T : Type 0} (w : Spelling T) where
  pub length_render : (f : Forest T) → length (render w f) ≡ cost w f
  length_render none = refl
  length_render (element t i a) =
      let p = length-append (w.opening t ++ render w i ++ w.closing t) (render w a) in
      let q = length-append (w.opening t ++ render w i) (w.closing t) in
      let r = length-append (w.opening t) (render w i) in
      let h = length_render i in
      let k = length_render a in
      omega arith

  module _ (room : ℕ) (t : T) (i a : Forest T) where
    abbrev left : ℕ
    left = room - (size w t)

    pub fitting_part_stop : leb (size w t) room ≡ false → fitting_part w room (element t i a) ≡ none
    fitting_part_stop p = ap (λ b. cond b (cond (all_fits w left i) (element t i (fitting_part w (left - cost w i) a)) (element t (fitting_part w left i) none)) none) p

    pub fitting_part_cut : leb (size w t) room ≡ true → all_fits w left i ≡ false → fitting_part w room (element t i a) ≡ element t (fitting_part w left i) none
    fitting_part_cut p q = λ j. cond (p j) (cond (q j) (element t i (fitting_part w (left - cost w i) a)) (element t (fitting_part w left i) none)) none

    pub fitting_part_on : leb (size w t) room ≡ true → all_fits w left i ≡ true → fitting_part w room (element t i a) ≡ element t i (fitting_part w (left - cost w i) a)
    fitting_part_on p q = λ j. cond (p j) (cond (q j) (element t i (fitting_part w (left - cost w i) a)) (element t (fitting_part w left i) none)) none

  pub fitting_part_le : (room : ℕ) (f : Forest T) → cost w (fitting_part w room f) ≤ room
  fitting_part_le room none = omega arith
  fitting_part_le room (element t i a) =
      let left : ℕ = room - (size w t) in
      ⊎_elim
      (λ p.
      let h = leb-true _ _ p in
      ⊎_elim
      (λ q. let k = leb-true _ _ q in let r = fitting_part_le (left - cost w i) a in subst (λ f. cost w f ≤ room) (sym (fitting_part_on room t i a p q)) (omega arith))
      (λ q. let r = fitting_part_le left i in subst (λ f. cost w f ≤ room) (sym (fitting_part_cut room t i a p q)) (omega arith))
      (cases_Bool (all_fits w left i)))
      (λ p. subst (λ f. cost w f ≤ room) (sym (fitting_part_stop room t i a p)) (omega arith))
      (cases_Bool (leb (size w t) room))

  pub fitting_part_whole : (room : ℕ) (f : Forest T) → cost w f ≤ room → fitting_part w room f ≡ f
  fitting_part_whole room none h = refl
  fitting_part_whole room (element t i a) h =
      fitting_part_on room t i a (le-leb _ _ (omega arith)) (le-leb _ _ (omega arith)) ∙ ap (element t i) (fitting_part_whole (room - (size w t) - cost w i) a (omega arith))

  pub fitting_part_each : (P : T → Type 0) (room : ℕ) (f : Forest T) → Each P f → Each P (fitting_part w room f)
  fitting_part_each P room none h = tt
  fitting_part_each P room (element t i a) h =
      let left : ℕ = room - size w t in
      let on : Forest T = element t i (fitting_part w (left - cost w i) a) in
      let cut : Forest T = element t (fitting_part w left i) none in
      chosen (Each P) (leb (size w t) room) (cond (all_fits w left i) on cut) none
      (chosen (Each P) (all_fits w left i) on cut (h.0, h.1, fitting_part_each P (left - cost w i) a h.2) (h.0, fitting_part_each P left i h.1, tt)) tt

  -- where an element that is written, with what is inside it, is so, and what is written after it
  pub each_on : (P : T → Type 0) (room : ℕ) (t : T) (i a : Forest T) → all_fits w room (element t i none) ≡ true → Each P (fitting_part w room (element t i none)) → Each P (fitting_part w (room - size w t - cost w i) a) → Each P (fitting_part w room (element t i a))
  each_on P room t i a p first later =
      let h = leb-true _ _ p in
      let it : Each P (element t i none) = subst (Each P) (fitting_part_whole room (element t i none) h) first in
      subst (Each P) (sym (fitting_part_on room t i a (le-leb (size w t) room (omega arith)) (le-leb (cost w i) (room - size w t) (omega arith)))) (it.0, it.1, later)

  pub each_stop : (P : T → Type 0) (room : ℕ) (t : T) (i a : Forest T) → all_fits w room (element t i none) ≡ false → Each P (fitting_part w room (element t i none)) → Each P (fitting_part w room (element t i a))
  each_stop P room t i a p first =
      let h = leb-false _ _ p in
      ⊎_elim
      (λ x.
      let k = leb-true _ _ x in
      let y = lt-leb (cost w i) (room - size w t) (omega arith) in
      subst (Each P) (fitting_part_cut room t i none x y ∙ sym (fitting_part_cut room t i a x y)) first)
      (λ x. subst (Each P) (sym (fitting_part_stop room t i a x)) tt)
      (cases_Bool (leb (size w t) room))

  pub each_begun : (P : T → Type 0) (room : ℕ) (t : T) (i : Forest T) → leb (size w t) room ≡ true → P t → Each P (fitting_part w (room - size w t) i) → Each P (fitting_part w room (element t i none))
  each_begun P room t i p q inside =
      let left : ℕ = room - size w t in
      ⊎_elim
      (λ x.
      let h = leb-true _ _ x in
      subst (Each P) (sym (fitting_part_on room t i none p x)) (q, subst (Each P) (fitting_part_whole left i h) inside, tt))
      (λ x. subst (Each P) (sym (fitting_part_cut room t i none p x)) (q, inside, tt))
      (cases_Bool (all_fits w left i))

  -- what is kept of an element that is not kept whole is all that is kept
  pub kept_first : (room : ℕ) (t : T) (i a : Forest T) → all_fits w room (element t i none) ≡ false →
      fitting_part w room (element t i a) ≡ fitting_part w room (element t i none)
  kept_first room t i a p =
      let h = leb-false _ _ p in
      ⊎_elim
      (λ x.
      let k = leb-true _ _ x in
      let y = lt-leb (cost w i) (room - size w t) (omega arith) in
      fitting_part_cut room t i a x y ∙ sym (fitting_part_cut room t i none x y))
      (λ x. fitting_part_stop room t i a x ∙ sym (fitting_part_stop room t i none x))
      (cases_Bool (leb (size w t) room))

  -- how much is counted of an element that is kept whole, and of what comes after it
  pub count_on : (of : T → ℕ) (room : ℕ) (t : T) (i a : Forest T) → all_fits w room (element t i none) ≡ true →
      count of (fitting_part w room (element t i a))
      ≡ count of (fitting_part w room (element t i none)) + count of (fitting_part w (room - size w t - cost w i) a)
  count_on of room t i a p =
      let h = leb-true _ _ p in
      let on = le-leb (size w t) room (omega arith) in
      let all = le-leb (cost w i) (room - size w t) (omega arith) in
      let x = ap (count of) (fitting_part_on room t i a on all) in
      let y = ap (count of) (fitting_part_whole room (element t i none) h) in
      omega arith

  -- and of one that is begun
  pub count_begun : (of : T → ℕ) (room : ℕ) (t : T) (i : Forest T) → leb (size w t) room ≡ true →
      count of (fitting_part w room (element t i none)) ≡ of t + count of (fitting_part w (room - size w t) i)
  count_begun of room t i p =
      let left : ℕ = room - size w t in
      ⊎_elim
      (λ x.
      let h = leb-true _ _ x in
      let y = ap (count of) (fitting_part_on room t i none p x) in
      let z = ap (count of) (fitting_part_whole left i h) in
      omega arith)
      (λ x. let y = ap (count of) (fitting_part_cut room t i none p x) in omega arith)
      (cases_Bool (all_fits w left i))
