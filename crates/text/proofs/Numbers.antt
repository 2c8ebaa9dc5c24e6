-- A number's digits from the back.
use Rattle.std.proofs.Common.{◌≡◌, ℕ, zero, suc, ◌+◌, ◌-◌, ◌/◌, ◌%◌, ◌^◌, ◌<◌, true, List, [], ◌∷◌, ◌++◌, map, length, get_or, decimal, sym, ap, ◌∙◌, subst, append_assoc, pow-suc, arith, rules}
use Rattle.std.specs.Str.{all_ascii_digits}
use Rattle.std.proofs.lemmas.Str.Parse.{IsNumeralModel, numerals_by_fold}
use Rattle.text.specs.Numeral.{read_on, Writes}
use Rattle.std.specs.Int.Digits.{digits_of}
use Rattle.std.proofs.lemmas.Fmt.{decimal_digit, decimal-digits_of, decimal_nonempty, first_decimal, digits_decimal, digits_value-decimal, decimal-digits_value}
use Rattle.std.proofs.lemmas.Int.Digits.{digits_of_step}
use Rattle.std.proofs.lemmas.List.{map_push}

abbrev pub front : ℕ → List ℕ
front n = map (λ d. 48 + d) (digits_of 10 n)

step : (n : ℕ) → 0 < n → front n ≡ front (n / 10) ++ ((48 + n % 10) ∷ [])
step n h = ap (map (λ d. 48 + d)) (digits_of_step 10 n (omega arith) h) ∙ map_push (λ d. 48 + d) (digits_of 10 (n / 10)) (n % 10)

pub last_digit : (n : ℕ) → n < 2 ^ 64 → front (n / 10) ++ ((48 + n % 10) ∷ []) ≡ decimal n
last_digit zero h = sym (decimal_digit 0 (omega arith))
last_digit (suc m) h = sym (step (suc m) (omega arith)) ∙ sym (decimal-digits_of (suc m) (omega arith) h)

pub next_digit : (n : ℕ) (ds : List ℕ) → 0 < n → front (n / 10) ++ ((48 + n % 10) ∷ ds) ≡ front n ++ ds
next_digit n ds h = sym (append_assoc (front (n / 10)) ((48 + n % 10) ∷ []) ds) ∙ ap (λ l. l ++ ds) (sym (step n h))

pub fewer : (n k : ℕ) → 0 < n → n < 10 ^ k → (0 < k) × (n / 10 < 10 ^ (k - 1))
fewer n zero p h = absurd (omega arith)
fewer n (suc k) p h =
    let e = pow-suc 10 k in
    let back : suc k - 1 ≡ k = omega arith in
    let less : n / 10 < 10 ^ k = omega arith in
    (omega arith, subst (λ j. n / 10 < 10 ^ j) (sym back) less)

own : IsNumeralModel (λ ds. all_ascii_digits ds ≡ true) (read_on 0)
own = numerals_by_fold _ (search rules) read_on (search rules)

lead : (n : ℕ) → n < 2 ^ 64 → get_or (decimal n) 0 0 ≡ 48 → length (decimal n) ≡ 1
lead zero h e = ap length (decimal_digit 0 (omega arith))
lead (suc m) h e = absurd (let f = first_decimal (suc m) (omega arith) h in omega arith)

pub writes : (n : ℕ) → n < 2 ^ 64 → Writes n (decimal n)
writes n h = record {
  plain = record { all = digits_decimal own n h; some = decimal_nonempty n h; lead = lead n h };
  back = digits_value-decimal own n h;
  only = λ es p e. sym (decimal-digits_value own es p.all p.some p.lead (subst (λ k. k < 2 ^ 64) (sym e) h)) ∙ ap decimal e;
}
