-- What was written reads back.
use Rattle.std.proofs.Common.{◌≡◌, ℕ, ◌^◌, ◌<◌, true, List, [], ◌∷◌, decimal, Some, bytes_eq, refl, eq-eqb, rules}
use Rattle.std.specs.Str.{all_ascii_digits}
use Rattle.std.proofs.lemmas.Str.Parse.{IsNumeralModel, numerals_by_fold}
use Rattle.std.proofs.lemmas.Fmt.{digits_value-decimal}
use Rattle.text.specs.Numeral.{read_on}
use Rattle.markup.specs.Closing.{empty}
use Rattle.markup.specs.Reading.{number_in, text_in}
use Rattle.markup.proofs.Nesting.{said}

own : IsNumeralModel (λ ds. all_ascii_digits ds ≡ true) (read_on 0)
own = numerals_by_fold _ (search rules) read_on (search rules)

pub same_bytes : (bs : List ℕ) → bytes_eq bs bs ≡ true
same_bytes [] = refl
same_bytes (b ∷ bs) = rw (eq-eqb b b refl) (same_bytes bs)

pub number_decimal : (n : ℕ) → n < 2 ^ 64 → number_in (decimal n) ≡ Some n
number_decimal n h = rw (digits_value-decimal own n h, same_bytes (decimal n)) refl

pub said_back : (t : List ℕ) → text_in (said empty t) ≡ t
said_back [] = refl
said_back (b ∷ t) = refl
