-- What is read of a tree: the elements right in it, their attributes, texts and numbers.
use Rattle.std.specs.Prelude.{ℕ, ◌==◌, List, [], ◌∷◌, ◌++◌, Some, None, Option, codes, bytes_eq, decimal, if◌then◌else◌}
use Rattle.text.specs.Numeral.{read_on}
use Rattle.markup.specs.Marks.{Attribute}
use Rattle.markup.specs.Closing.{Content, empty, words, element}

-- the value of the attribute of that key
abbrev pub value_at : List ℕ → List Attribute → List ℕ
value_at k [] = []
value_at k (a ∷ xs) = if bytes_eq a.key k then a.value else value_at k xs

abbrev pub id_of : List Attribute → List ℕ
id_of xs = value_at (codes "id") xs

-- a number without leading zeros
abbrev pub number_in : List ℕ → Option ℕ
number_in ds = if bytes_eq ds (decimal (read_on 0 ds)) then Some (read_on 0 ds) else None

-- the number after that letter
abbrev pub number_behind : ℕ → List ℕ → Option ℕ
number_behind letter [] = None
number_behind letter (c ∷ ds) = if c == letter then number_in ds else None

-- what is read of an element, by its name, its attributes and what is inside it
abbrev pub Reader : Type 0 → Type 0
Reader A = List ℕ → List Attribute → Content → List A

-- what f reads of each element that stands right in c, in file order
abbrev pub each_in : {A : Type 0} → Reader A → Content → List A
each_in f empty = []
each_in f (words c t) = each_in f c
each_in f (element c n xs inside) = each_in f c ++ f n xs inside

-- the text right in an element
abbrev pub text_in : Content → List ℕ
text_in empty = []
text_in (words c t) = text_in c ++ t
text_in (element c n xs inside) = text_in c

abbrev pub sole_text : List (List ℕ) → List ℕ
sole_text (t ∷ []) = t
sole_text _ = []

-- what f reads of each outermost element of a file that closes
abbrev pub in_tree : {A : Type 0} → Reader A → Option Content → List A
in_tree f None = []
in_tree f (Some c) = each_in f c
