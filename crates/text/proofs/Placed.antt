-- One write after another.
use Rattle.std.proofs.Common.{◌≡◌, ℕ, ◌+◌, ◌≤◌, List, [], ◌++◌, length, take, drop, sym, ap, ◌∙◌, append_assoc, add-zero, arith, length-append, length-drop, take-append-drop}
use Rattle.std.proofs.lemmas.List.{length-take-le, take_at, drop_at, drop-drop}
use Rattle.text.specs.Bytes.{with_text_at}

module _ (b : List ℕ) (at : ℕ) (s : List ℕ) (h : at + length s ≤ length b) where
  front : length (take at b ++ s) ≡ at + length s
  front = length-append (take at b) s ∙ ap (λ n. n + length s) (length-take-le at b (omega arith))

  take-with_text_at : take (at + length s) (with_text_at b at s) ≡ take at b ++ s
  take-with_text_at = ap (take (at + length s)) (sym (append_assoc (take at b) s (drop (at + length s) b))) ∙ take_at (take at b ++ s) (drop (at + length s) b) (at + length s) front

  drop-with_text_at : drop (at + length s) (with_text_at b at s) ≡ drop (at + length s) b
  drop-with_text_at = ap (drop (at + length s)) (sym (append_assoc (take at b) s (drop (at + length s) b))) ∙ drop_at (take at b ++ s) (drop (at + length s) b) (at + length s) front

  pub length-with_text_at : length (with_text_at b at s) ≡ length b
  length-with_text_at =
      let a = length-append (take at b) (s ++ drop (at + length s) b) in
      let c = length-append s (drop (at + length s) b) in
      let d = length-take-le at b (omega arith) in
      let e = length-drop (at + length s) b in
      omega arith

  pub with_text_at-append : (t : List ℕ) → with_text_at (with_text_at b at s) (at + length s) t ≡ with_text_at b at (s ++ t)
  with_text_at-append t =
      let end : at + length s + length t ≡ at + length (s ++ t) = simp length-append (omega arith) in
      let last : drop (at + length s + length t) (with_text_at b at s) ≡ drop (at + length (s ++ t)) b = sym (drop-drop (length t) (at + length s) (with_text_at b at s)) ∙ ap (drop (length t)) drop-with_text_at ∙ drop-drop (length t) (at + length s) b ∙ ap (λ n. drop n b) end in
      (λ i. take-with_text_at i ++ (t ++ last i)) ∙ append_assoc (take at b) s _ ∙ ap (λ r. take at b ++ r) (sym (append_assoc s t _))

pub with_text_at-nil : (b : List ℕ) (at : ℕ) → with_text_at b at [] ≡ b
with_text_at-nil b at = ap (λ n. take at b ++ drop n b) (add-zero at) ∙ take-append-drop at b

-- text was written from place at of b on, which gave c and the place n
abbrev pub Reached : List ℕ → ℕ → List ℕ → List ℕ → ℕ → Type 0
Reached b at s c n = (c ≡ with_text_at b at s) × (n ≡ at + length s)

pub reached : (b : List ℕ) (at : ℕ) (s c : List ℕ) (n : ℕ) (t : List ℕ) → at + length s ≤ length b → Reached b at s c n → Reached b at (s ++ t) (with_text_at c n t) (n + length t)
reached b at s c n t h r = (
  (λ i. with_text_at (r.0 i) (r.1 i) t) ∙ with_text_at-append b at s h t,
  let e = r.1 in simp length-append (omega arith),
)
