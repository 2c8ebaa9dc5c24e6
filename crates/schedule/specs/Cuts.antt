-- A text in pieces.
use Rattle.std.specs.Prelude.{ℕ, Bool, if◌then◌else◌, ◌||◌, List, [], ◌∷◌, length, filter, ◌==◌, nat_lt}
use Rattle.std.specs.List.{before_first}

-- the byte that ends a line
abbrev pub ends_line : ℕ → Bool
ends_line b = b == 0x0A

-- the one that begins a comment
abbrev pub begins_comment : ℕ → Bool
begins_comment b = b == 0x23

-- those between words
abbrev pub is_blank : ℕ → Bool
is_blank b = b == 0x20 || (b == 0x09 || b == 0x0D)

-- a byte more in front of the first piece
abbrev pub with_first_byte : ℕ → List (List ℕ) → List (List ℕ)
with_first_byte b [] = (b ∷ []) ∷ []
with_first_byte b (p ∷ ps) = (b ∷ p) ∷ ps

-- the pieces that the bytes picked by m end; the last one may lack its end
abbrev pub pieces : (ℕ → Bool) → List ℕ → List (List ℕ)
pieces m [] = []
pieces m (b ∷ bs) = if m b then [] ∷ pieces m bs else with_first_byte b (pieces m bs)

-- the lines of a text
unfoldable pub lines_in : List ℕ → List (List ℕ)
lines_in text = pieces ends_line text

-- what stands between blanks: the pieces that are not empty
unfoldable pub words_in : List ℕ → List (List ℕ)
words_in bs = filter (λ p. nat_lt 0 (length p)) (pieces is_blank bs)

-- the words of a line, up to its comment
abbrev pub line_words : List ℕ → List (List ℕ)
line_words line = words_in (before_first begins_comment line)
