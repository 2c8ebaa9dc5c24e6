-- Digits have none of the bytes that end a value or a text.
use Rattle.std.proofs.Common.{◌≡◌, ℕ, zero, suc, ◌+◌, ◌/◌, ◌%◌, ◌<◌, ◌≤◌, ◌==◌, Bool, true, false, cond, List, [], ◌∷◌, ◌++◌, decimal, ap, ◌∙◌, append_assoc, append-nil, ne_eqb, arith, lt-ltb}
use Rattle.std.specs.Fmt.{digits, digits_onto, digit_glyph}
use Rattle.markup.specs.Marks.{Attribute, class, other, in_text, in_value, scan}

abbrev pub Plain : List ℕ → Type 0
Plain [] = Unit {0}
Plain (c ∷ cs) = (class c ≡ other) × Plain cs

-- the scanner takes plain bytes into the value or the text at hand
value_on : (n k : List ℕ) (xs : List Attribute) (v ds rest : List ℕ) → Plain ds → scan (in_value n xs k v) (ds ++ rest) ≡ scan (in_value n xs k (v ++ ds)) rest
value_on n k xs v [] rest p = rw append-nil
value_on n k xs v (d ∷ ds) rest p =
    rw p.0 (value_on n k xs (v ++ (d ∷ [])) ds rest p.1 ∙ ap (λ (u : List ℕ). scan (in_value n xs k u) rest) (append_assoc v (d ∷ []) ds))

pub text_on : (v ds rest : List ℕ) → Plain ds → scan (in_text v) (ds ++ rest) ≡ scan (in_text (v ++ ds)) rest
text_on v [] rest p = rw append-nil
text_on v (d ∷ ds) rest p =
    rw p.0 (text_on (v ++ (d ∷ [])) ds rest p.1 ∙ ap (λ (u : List ℕ). scan (in_text u) rest) (append_assoc v (d ∷ []) ds))

digit_plain : (c : ℕ) → 48 ≤ c → c ≤ 57 → class c ≡ other
digit_plain c h k =
    let a : c == 60 ≡ false = ne_eqb c 60 (λ e. omega arith) in
    let b : c == 62 ≡ false = ne_eqb c 62 (λ e. omega arith) in
    let d : c == 47 ≡ false = ne_eqb c 47 (λ e. omega arith) in
    let e : c == 63 ≡ false = ne_eqb c 63 (λ e. omega arith) in
    let f : c == 61 ≡ false = ne_eqb c 61 (λ e. omega arith) in
    let g : c == 34 ≡ false = ne_eqb c 34 (λ e. omega arith) in
    let h' : c == 38 ≡ false = ne_eqb c 38 (λ e. omega arith) in
    let i : c == 32 ≡ false = ne_eqb c 32 (λ e. omega arith) in
    let j : c == 10 ≡ false = ne_eqb c 10 (λ e. omega arith) in
    simp (a, b, d, e, f, g, h', i, j)

glyph_plain : (n : ℕ) → class (digit_glyph false (n % 10)) ≡ other
glyph_plain n =
    let small : n % 10 < 10 = omega arith in
    rw (lt-ltb (n % 10) 10 small) (digit_plain (48 + n % 10) (omega arith) (omega arith))

either : (b : Bool) (ds es : List ℕ) → Plain ds → Plain es → Plain (cond b ds es)
either true ds es p q = p
either false ds es p q = q

onto_plain : (k n : ℕ) (acc : List ℕ) → Plain acc → Plain (digits_onto k 10 false n acc)
onto_plain zero n acc p = p
onto_plain (suc k) n acc p =
    let d = digit_glyph false (n % 10) in
    let q : Plain (d ∷ acc) = (glyph_plain n, p) in
    either (n / 10 == 0) (d ∷ acc) (digits_onto k 10 false (n / 10) (d ∷ acc)) q (onto_plain k (n / 10) (d ∷ acc) q)

pub decimal_plain : (n : ℕ) → Plain (decimal n)
unfolding digits
decimal_plain n = onto_plain 64 n [] tt

-- past a number in a value
pub value_past : (n k : List ℕ) (xs : List Attribute) (v : List ℕ) (i : ℕ) (rest : List ℕ) →
    scan (in_value n xs k v) (decimal i ++ rest) ≡ scan (in_value n xs k (v ++ decimal i)) rest
value_past n k xs v i rest = value_on n k xs v (decimal i) rest (decimal_plain i)
