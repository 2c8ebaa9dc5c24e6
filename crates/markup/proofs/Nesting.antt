-- How a tree grows by the marks of a line.
use Rattle.std.proofs.Common.{◌≡◌, ℕ, List, [], ◌∷◌, ◌++◌, refl}
use Rattle.markup.specs.Marks.{Attribute, Mark, says, in_text, text_marks, scan}
use Rattle.markup.specs.Closing.{Content, words, OpenElement, content_from}

abbrev pub feed : Mark
feed = says (10 ∷ [])

-- past a line feed
abbrev pub line : List ℕ → List Mark
line rest = scan (in_text (10 ∷ [])) rest

abbrev pub attr : List ℕ → List ℕ → Attribute
attr k v = record { key = k; value = v }

-- after a line feed
abbrev pub fed : Content → Content
fed c = words c (10 ∷ [])

abbrev pub said : Content → List ℕ → Content
said c [] = c
said c (b ∷ t) = words c (b ∷ t)

pub content_from_said : (os : List OpenElement) (c : Content) (t : List ℕ) (ms : List Mark) → content_from os c (text_marks t ++ ms) ≡ content_from os (said c t) ms
content_from_said [] c [] ms = refl
content_from_said (o ∷ os) c [] ms = refl
content_from_said [] c (b ∷ t) ms = refl
content_from_said (o ∷ os) c (b ∷ t) ms = refl

abbrev pub at : Content → List ℕ → List Attribute → OpenElement
at c n xs = record { before = c; name = n; attributes = xs }
