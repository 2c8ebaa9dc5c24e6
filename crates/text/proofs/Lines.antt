-- A text that is added to a line, and a line as bytes.
use Rattle.std.proofs.Common.{◌≡◌, ℕ, ◌+◌, ◌≤◌, cond, List, ◌++◌, length, drop, replicate, ap, ◌∙◌, le-leb, zero-add}
use Rattle.std.proofs.lemmas.List.{drop-replicate}
use Rattle.text.specs.Bytes.{with_text_at}
use Rattle.text.specs.Lines.{line_with, padded_text}

-- a text at the front of 128 zeros
pub padded_front : (t : List ℕ) → with_text_at (replicate 128 0) 0 t ≡ padded_text t
padded_front t =
    ap (λ (n : ℕ). t ++ drop n (replicate 128 0)) (zero-add (length t)) ∙ ap (λ (r : List ℕ). t ++ r) (drop-replicate (length t) 128 0)

-- one piece more, for which there is room
pub onto : {a b c : List ℕ} (x : List ℕ) → a ≡ b → c ≡ line_with a x → length b + length x ≤ 128 → c ≡ b ++ x
unfolding line_with
onto {a} {b} {c} x e f room =
    f ∙ ap (λ (t : List ℕ). line_with t x) e ∙ ap (λ t. cond t (b ++ x) b) (le-leb (length b + length x) 128 room)
