-- What a write leaves in a list of bytes.
use Rattle.std.specs.Prelude.{ℕ, ◌+◌, Bool, List, ◌++◌, length, take, drop, nat_le}

-- whether out has place for text from place at on
abbrev pub fits : List ℕ → ℕ → List ℕ → Bool
fits out at text = nat_le (at + length text) (length out)

-- out with text written from place at on
abbrev pub with_text_at : List ℕ → ℕ → List ℕ → List ℕ
with_text_at out at text = take at out ++ (text ++ drop (at + length text) out)
