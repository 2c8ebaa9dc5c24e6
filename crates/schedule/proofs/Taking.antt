-- Taking the next word.
use Rattle.std.proofs.Common.{◌≡◌, ℕ, ◌<◌, ◌≤◌, cond, List, [], ◌∷◌, length, filter, nat_lt, lt-ltb, Ok, refl, ap, ◌∙◌, arith}
use Rattle.std.specs.List.{before_first, after_first}
use Rattle.schedule.specs.Cuts.{ends_line, is_blank, pieces, lines_in, words_in}
use Rattle.schedule.specs.Records.{next_word}
use Rattle.schedule.specs.Words.{number_word}
use Rattle.schedule.proofs.Numbers.{number_le}
use Rattle.schedule.proofs.Pieces.{first_piece}

-- the pieces that are not empty
abbrev filled : List (List ℕ) → List (List ℕ)
filled ps = filter (λ p. nat_lt 0 (length p)) ps

filled_some : (p : List ℕ) (ps : List (List ℕ)) → 0 < length p → filled (p ∷ ps) ≡ p ∷ filled ps
filled_some p ps h = ap (λ t. cond t (p ∷ filled ps) (filled ps)) (lt-ltb 0 (length p) h)

filled_none : (p : List ℕ) (ps : List (List ℕ)) → length p ≡ 0 → filled (p ∷ ps) ≡ filled ps
filled_none p ps h = ap (λ n. cond (nat_lt 0 n) (p ∷ filled ps) (filled ps)) h

module _ (bs : List ℕ) (h : 0 < length bs) where
  -- bytes up to a blank are a word
  pub one_word : 0 < length (before_first is_blank bs) → words_in bs ≡ before_first is_blank bs ∷ words_in (after_first is_blank bs)
  unfolding words_in
  one_word some = ap filled (first_piece is_blank bs h) ∙ filled_some (before_first is_blank bs) (pieces is_blank (after_first is_blank bs)) some

  -- a blank is passed over
  pub one_blank : length (before_first is_blank bs) ≡ 0 → words_in bs ≡ words_in (after_first is_blank bs)
  unfolding words_in
  one_blank none = ap filled (first_piece is_blank bs h) ∙ filled_none (before_first is_blank bs) (pieces is_blank (after_first is_blank bs)) none

pub no_word : (bs : List ℕ) → length bs ≡ 0 → words_in bs ≡ []
unfolding words_in
no_word [] h = refl
no_word (b ∷ bs) h = absurd (omega arith)

-- bytes up to a line's end are a line
pub one_line : (bs : List ℕ) → 0 < length bs → lines_in bs ≡ before_first ends_line bs ∷ lines_in (after_first ends_line bs)
unfolding lines_in
one_line bs h = first_piece ends_line bs h

pub no_line : (bs : List ℕ) → length bs ≡ 0 → lines_in bs ≡ []
unfolding lines_in
no_line [] h = refl
no_line (b ∷ bs) h = absurd (omega arith)

-- a number that was taken is not too large
pub due_le : (max : ℕ) (ws : List (List ℕ)) (n : ℕ) → next_word (number_word max) ws ≡ Ok n → n ≤ max
unfolding next_word
due_le max [] n e = absurd (let z : ◌≡◌ {A = ℕ} 0 1 = cc in omega arith)
due_le max (w ∷ ws) n e = number_le max w n e
