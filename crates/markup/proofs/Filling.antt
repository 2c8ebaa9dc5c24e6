-- What an output holds after a forest, element by element.
use Rattle.std.proofs.Common.{◌≡◌, ℕ, ◌+◌, ◌-◌, ◌<◌, ◌≤◌, true, false, leb, ◌++◌, length, sym, refl, ap, ◌∙◌, ⊎_elim, add-zero, arith, length-append, le-leb, leb-false, leb-true}
use borrow.Author.Tests.{lt-leb}
use Rattle.std.proofs.lemmas.Bool.{cases_Bool}
use Rattle.text.specs.Bytes.{with_text_at}
use Rattle.text.proofs.Placed.{with_text_at-nil, reached}
use Rattle.markup.specs.Forests.{Spelling, Forest, none, element, render}
use Rattle.markup.specs.Cut.{size, cost, all_fits, fitting_part}
use Rattle.markup.specs.Held.{OutputState, has_room, with_text, with_opening, with_forest, with_part}
use Rattle.markup.proofs.Kept.{length_render, fitting_part_cut, fitting_part_on, fitting_part_le, fitting_part_whole}

-- two outputs with equal parts
same_held : {s t : OutputState} → s.lent ≡ t.lent → s.bytes ≡ t.bytes → s.at ≡ t.at → s.room ≡ t.room → s ≡ t
same_held l b a r = λ i. record { lent = l i; bytes = b i; at = a i; room = r i }

same_leb : (a b c d : ℕ) → (a ≤ b → c ≤ d) → (c ≤ d → a ≤ b) → leb a b ≡ leb c d
same_leb a b c d f g =
    ⊎_elim
    (λ p. p ∙ sym (le-leb c d (f (leb-true a b p))))
    (λ p. let n : d < c = ⊎_elim (λ q. absurd (let h = leb-false a b p in let k = g (leb-true c d q) in omega arith)) (λ q. leb-false c d q) (cases_Bool (leb c d)) in p ∙ sym (lt-leb c d n))
    (cases_Bool (leb a b))

module _ {T : Type 0} (w : Spelling T) where
  pub with_none : (s : OutputState) → with_part w s none ≡ s
  with_none s = same_held refl (with_text_at-nil s.bytes s.at) (add-zero _) (omega arith)

  -- an element is its opening, what is inside, its closing, and what comes after
  after_element : (s : OutputState) (t : T) (i a : Forest T) → s.at + s.room ≤ length s.bytes → size w t + cost w i + cost w a ≤ s.room →
      with_forest w s (element t i a) ≡
      with_forest w (with_text (with_forest w (with_opening s (w.opening t) (length (w.closing t))) i) (w.closing t)) a
  after_element s t i a sound room =
      let b = s.bytes in
      let at = s.at in
      let li = length_render w i in
      let la = length_render w a in
      let l1 = length-append (w.opening t) (render w i) in
      let l2 = length-append (w.opening t ++ render w i) (w.closing t) in
      let r1 = reached b at (w.opening t) (with_text_at b at (w.opening t)) (at + length (w.opening t)) (render w i) (omega arith) (refl, refl) in
      let r2 = reached b at (w.opening t ++ render w i) _ _ (w.closing t) (omega arith) r1 in
      let r3 = reached b at (w.opening t ++ render w i ++ w.closing t) _ _ (render w a) (omega arith) r2 in
      same_held refl (sym r3.0) (sym r3.1) (omega arith)

  module _ (s : OutputState) (t : T) (i a : Forest T) (sound : s.at + s.room ≤ length s.bytes) where
    abbrev inner : OutputState
    inner = with_opening s (w.opening t) (length (w.closing t))

    abbrev past : OutputState
    past = with_text (with_part w inner i) (w.closing t)

    abbrev it : Forest T
    it = element t i a

    cuts : has_room s (w.opening t) (length (w.closing t)) ≡ true → all_fits w inner.room i ≡ false → with_part w s it ≡ past
    cuts p q =
        let h = leb-true _ _ p in
        let l = fitting_part_le w (s.room - size w t) i in
        ap (with_forest w s) (fitting_part_cut w s.room t i a p q)
        ∙ after_element s t (fitting_part w (s.room - size w t) i) none sound (omega arith) ∙ with_none past

    goes_on : has_room s (w.opening t) (length (w.closing t)) ≡ true → all_fits w inner.room i ≡ true →
        (with_part w s it ≡ with_part w past a) × (all_fits w s.room it ≡ all_fits w past.room a)
    goes_on p q =
        let left : ℕ = s.room - size w t in
        let h = leb-true _ _ p in
        let k = leb-true _ _ q in
        let l = fitting_part_le w (left - cost w i) a in
        let all = fitting_part_whole w left i k in
        let at_i : Forest T → OutputState = λ f. with_text (with_forest w inner f) (w.closing t) in (
          ap (with_forest w s) (fitting_part_on w s.room t i a p q) ∙ after_element s t i (fitting_part w (left - cost w i) a) sound (omega arith) ∙ ap (λ f. with_part w (at_i f) a) (sym all),
          same_leb _ _ _ _ (λ x. omega arith) (λ x. omega arith) ∙ ap (λ f. all_fits w (left - cost w f) a) (sym all),
        )

  module _ (s : OutputState) (t : T) (i a : Forest T) (sound : s.at + s.room ≤ length s.bytes) where
    -- what comes after an element that is written whole
    pub first_whole : all_fits w s.room (element t i none) ≡ true →
        (with_part w s (element t i a) ≡ with_part w (with_part w s (element t i none)) a)
        × (all_fits w s.room (element t i a) ≡ all_fits w (with_part w s (element t i none)).room a)
    first_whole p =
        let h = leb-true _ _ p in
        let f = le-leb (size w t) s.room (omega arith) in
        let g = le-leb (cost w i) (s.room - size w t) (omega arith) in
        let x = goes_on s t i a sound f g in
        let y = goes_on s t i none sound f g in
        let e = y.0 ∙ with_none (past s t i none sound) in
        (x.0 ∙ ap (λ u. with_part w u a) (sym e), x.1 ∙ ap (λ (u : OutputState). all_fits w u.room a) (sym e))

    -- an element that is begun ends as its inside does, closed
    pub framed : has_room s (w.opening t) (length (w.closing t)) ≡ true →
        with_part w s (element t i none) ≡ with_text (with_part w (with_opening s (w.opening t) (length (w.closing t))) i) (w.closing t)
    framed f =
        ⊎_elim
        (λ x. (goes_on s t i none sound f x).0 ∙ with_none _)
        (λ x. cuts s t i none sound f x)
        (cases_Bool (all_fits w (inner s t i none sound).room i))

  pub room_left : (s : OutputState) (t : T) (i : Forest T) → all_fits w s.room (element t i none) ≡ true →
      (with_part w s (element t i none)).room ≡ s.room - size w t - cost w i
  room_left s t i p =
      let h = leb-true _ _ p in
      let e = ap (cost w) (fitting_part_whole w s.room (element t i none) h) in
      omega arith
