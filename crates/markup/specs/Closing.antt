-- What marks come to: one element with everything in it, each closed by an end tag of its own name.
use Rattle.std.specs.Prelude.{ℕ, Bool, true, false, ◌==◌, ◌&&◌, ◌||◌, not, List, [], ◌∷◌, Some, None, Option, IsSome, bytes_eq, if◌then◌else◌}
use Rattle.std.specs.List.{list_all, list_any}
use Rattle.markup.specs.Marks.{Attribute, Mark, declares, starts, stops, stands, says, fault, marks}

-- what stands between two tags: nothing, or a text or an element after what stands before it
pub data Content : Type 0 where
  empty : Content
  words : (before : Content) → List ℕ → Content
  element : (before : Content) → (name : List ℕ) → List Attribute → (inside : Content) → Content

-- an element that is open, with what stands before it
pub record OpenElement : Type 0 where
  pub before : Content
  pub name : List ℕ
  pub attributes : List Attribute

abbrev pub has_key : List ℕ → List Attribute → Bool
has_key k xs = list_any (λ a. bytes_eq a.key k) xs

-- no key stands twice
abbrev pub keys_differ : List Attribute → Bool
keys_differ [] = true
keys_differ (a ∷ xs) = not (has_key a.key xs) && keys_differ xs

-- what the marks make of c and the elements that are open round it, the innermost first: an end tag
-- closes the innermost if it has its name, and at the end nothing is open
abbrev pub content_from : List OpenElement → Content → List Mark → Option Content
content_from [] c [] = Some c
content_from (o ∷ os) c [] = None
content_from os c (declares ∷ ms) = None
content_from os c (starts n xs ∷ ms) =
    if keys_differ xs
    then content_from (record { before = c; name = n; attributes = xs } ∷ os) empty ms
    else None
content_from [] c (stops n ∷ ms) = None
content_from (o ∷ os) c (stops n ∷ ms) =
    if bytes_eq n o.name then content_from os (element o.before o.name o.attributes c) ms else None
content_from os c (stands n xs ∷ ms) =
    if keys_differ xs then content_from os (element c n xs empty) ms else None
content_from os c (says t ∷ ms) = content_from os (words c t) ms
content_from os c (fault ∷ ms) = None

-- spaces and line feeds alone
abbrev pub are_blanks : List ℕ → Bool
are_blanks t = list_all (λ c. c == 32 || c == 10) t

abbrev pub has_no_element : Content → Bool
has_no_element empty = true
has_no_element (words c t) = are_blanks t && has_no_element c
has_no_element (element c n xs inside) = false

-- one element, and blanks alone before it and after it
abbrev pub is_one_element : Content → Bool
is_one_element empty = false
is_one_element (words c t) = are_blanks t && is_one_element c
is_one_element (element c n xs inside) = has_no_element c

abbrev pub sole_element : Option Content → Option Content
sole_element None = None
sole_element (Some c) = if is_one_element c then Some c else None

-- a declaration at the very start, and then one element
abbrev pub document : List Mark → Option Content
document [] = None
document (declares ∷ ms) = sole_element (content_from [] empty ms)
document (_ ∷ ms) = None

-- what an XML reader makes of a file, if it takes it
unfoldable pub tree : List ℕ → Option Content
tree bs = document (marks bs)

-- every element that is opened is closed in its turn, inner before outer
abbrev pub Closes : List ℕ → Type 0
Closes bs = IsSome (tree bs)
