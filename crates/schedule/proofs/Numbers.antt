-- Reading a number from the left.
use Rattle.std.proofs.Common.{◌≡◌, ℕ, ◌+◌, ◌-◌, ◌*◌, ◌<◌, ◌≤◌, min, true, false, cond, ◌&&◌, leb, List, [], ◌∷◌, length, get_or, drop, Ok, Err, Result, sym, refl, ◌∙◌, arith}
use Rattle.std.specs.Str.{all_ascii_digits}
use Rattle.std.specs.Char.{is_ascii_digit}
use Rattle.std.proofs.lemmas.List.{drop_more, drop_all}
use Rattle.std.proofs.lemmas.Bool.Decides.{nat_tests}
use Rattle.text.specs.Numeral.{read_on}
use Rattle.schedule.specs.declared.complaint.Cause.{Cause}
use Rattle.schedule.specs.declared.complaint.Cause.TheVariants.{NotANumber, NumberTooLarge}
use Rattle.schedule.specs.Words.{number_word}

-- the end of a number that has come to n
abbrev pub closed : ℕ → ℕ → Result ℕ Cause
closed max n = cond (leb n max) (Ok n) (Err NumberTooLarge)

-- reading on from n, which stays at max + 1 once it is past max
abbrev pub counted : ℕ → ℕ → List ℕ → Result ℕ Cause
counted max n [] = closed max n
counted max n (c ∷ cs) = cond (is_ascii_digit c) (counted max (min (10 * n + (c - 48)) (max + 1)) cs) (Err NotANumber)

-- the same without stopping
plain : (max n k : ℕ) (cs : List ℕ) → k ≡ min n (max + 1) → counted max k cs ≡ cond (all_ascii_digits cs) (closed max (read_on n cs)) (Err NotANumber)
plain max n k [] e = grind (arith, nat_tests)
plain max n k (c ∷ cs) e =
    elim (is_ascii_digit c) as (λ t. cond t (counted max (min (10 * k + (c - 48)) (max + 1)) cs) (Err NotANumber) ≡ cond (t && all_ascii_digits cs) (closed max (read_on (10 * n + (c - 48)) cs)) (Err NotANumber))
    [ true ↦ plain max (10 * n + (c - 48)) (min (10 * k + (c - 48)) (max + 1)) cs (omega arith) | false ↦ refl ]

pub begun : (max : ℕ) (w : List ℕ) → number_word max w ≡ counted max 0 w
unfolding number_word
begun max w = sym (plain max 0 0 w (omega arith))

module _ (max : ℕ) (w : List ℕ) (n i : ℕ) (r : Result ℕ Cause) (e : r ≡ counted max n (drop i w)) where
  -- a byte that is no digit ends it
  pub no_digit : i < length w → is_ascii_digit (get_or w i 0) ≡ false → Err NotANumber ≡ r
  no_digit h d = let s = drop_more w i 0 h in sym (e ∙ rw (s, d))

  -- a digit is counted
  pub digit : (k : ℕ) → i < length w → is_ascii_digit (get_or w i 0) ≡ true → k ≡ min (10 * n + (get_or w i 0 - 48)) (max + 1) → r ≡ counted max k (drop (i + 1) w)
  digit k h d q = let s = drop_more w i 0 h in e ∙ rw (s, d, q)

  pub all_read : length w ≤ i → r ≡ closed max n
  all_read h = let s = drop_all i w h in e ∙ rw s

closed_le : (max m n : ℕ) → closed max m ≡ Ok n → n ≤ max
closed_le max m n e = grind (arith, nat_tests)

pub number_le : (max : ℕ) (w : List ℕ) (n : ℕ) → number_word max w ≡ Ok n → n ≤ max
unfolding number_word
number_le max w n e =
    (elim (all_ascii_digits w) as (λ t. cond t (closed max (read_on 0 w)) (Err NotANumber) ≡ Ok n → n ≤ max)
    [ true ↦ closed_le max (read_on 0 w) n | false ↦ λ z. absurd (let y : ◌≡◌ {A = ℕ} 0 1 = cc in omega arith) ]) e
