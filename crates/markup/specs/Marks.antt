-- The marks in the bytes of an XML file, found byte by byte with no knowledge of who wrote them.
use Rattle.std.specs.Prelude.{ℕ, ◌==◌, List, [], ◌∷◌, ◌++◌, if◌then◌else◌}

pub record Attribute : Type 0 where
  pub key : List ℕ
  pub value : List ℕ

-- a declaration, a start tag, an end tag, the tag of an empty element, the text between two tags,
-- or what is none of these
pub data Mark : Type 0 where
  declares : Mark
  starts : List ℕ → List Attribute → Mark
  stops : List ℕ → Mark
  stands : List ℕ → List Attribute → Mark
  says : List ℕ → Mark
  fault : Mark

-- what a byte is to the scanner: < > / ? = " &, a space or a line feed, or another
pub data Class : Type 0 where
  less : Class
  greater : Class
  slash : Class
  question : Class
  equals : Class
  quote : Class
  ampersand : Class
  blank : Class
  other : Class

abbrev pub class : ℕ → Class
class c =
    if c == 60 then less else
    (if c == 62 then greater else
    (if c == 47 then slash else
    (if c == 63 then question else
    (if c == 61 then equals else
    (if c == 34 then quote else
    (if c == 38 then ampersand else
    (if c == 32 then blank else
    (if c == 10 then blank else other))))))))

-- where the scanner is, with what it has read of the mark at hand: the text, the name, the
-- attributes, the key, the value
pub data Scanner : Type 0 where
  in_text : List ℕ → Scanner
  after_less : Scanner
  in_declaration : Scanner
  after_question : Scanner
  in_end_tag : List ℕ → Scanner
  in_name : List ℕ → Scanner
  in_tag : List ℕ → List Attribute → Scanner
  in_key : List ℕ → List Attribute → List ℕ → Scanner
  after_equals : List ℕ → List Attribute → List ℕ → Scanner
  in_value : List ℕ → List Attribute → List ℕ → List ℕ → Scanner
  after_value : List ℕ → List Attribute → Scanner
  after_slash : List ℕ → List Attribute → Scanner
  at_fault : Scanner

-- the text before a tag, if there is any
abbrev pub text_marks : List ℕ → List Mark
text_marks [] = []
text_marks (c ∷ t) = says (c ∷ t) ∷ []

-- the marks that a byte ends, and where the scanner is then
pub record Move : Type 0 where
  pub gives : List Mark
  pub next : Scanner

-- a byte that ends no mark
abbrev pub plain_move : Scanner → Move
plain_move p = record { gives = []; next = p }

-- a byte that ends a mark, behind which comes text
abbrev pub mark_move : Mark → Move
mark_move m = record { gives = m ∷ []; next = in_text [] }

abbrev pub move : Scanner → Class → ℕ → Move
move (in_text t) less c = record { gives = text_marks t; next = after_less }
move (in_text t) ampersand c = plain_move at_fault
move (in_text t) _ c = plain_move (in_text (t ++ (c ∷ [])))
move after_less question c = plain_move in_declaration
move after_less slash c = plain_move (in_end_tag [])
move after_less other c = plain_move (in_name (c ∷ []))
move after_less _ c = plain_move at_fault
move in_declaration less c = plain_move at_fault
move in_declaration question c = plain_move after_question
move in_declaration _ c = plain_move in_declaration
move after_question greater c = mark_move declares
move after_question _ c = plain_move at_fault
move (in_end_tag n) other c = plain_move (in_end_tag (n ++ (c ∷ [])))
move (in_end_tag n) greater c = mark_move (stops n)
move (in_end_tag n) _ c = plain_move at_fault
move (in_name n) other c = plain_move (in_name (n ++ (c ∷ [])))
move (in_name n) blank c = plain_move (in_tag n [])
move (in_name n) slash c = plain_move (after_slash n [])
move (in_name n) greater c = mark_move (starts n [])
move (in_name n) _ c = plain_move at_fault
move (in_tag n xs) blank c = plain_move (in_tag n xs)
move (in_tag n xs) other c = plain_move (in_key n xs (c ∷ []))
move (in_tag n xs) slash c = plain_move (after_slash n xs)
move (in_tag n xs) greater c = mark_move (starts n xs)
move (in_tag n xs) _ c = plain_move at_fault
move (in_key n xs k) other c = plain_move (in_key n xs (k ++ (c ∷ [])))
move (in_key n xs k) equals c = plain_move (after_equals n xs k)
move (in_key n xs k) _ c = plain_move at_fault
move (after_equals n xs k) quote c = plain_move (in_value n xs k [])
move (after_equals n xs k) _ c = plain_move at_fault
move (in_value n xs k v) quote c =
    plain_move (after_value n (xs ++ (record { key = k; value = v } ∷ [])))
move (in_value n xs k v) less c = plain_move at_fault
move (in_value n xs k v) ampersand c = plain_move at_fault
move (in_value n xs k v) _ c = plain_move (in_value n xs k (v ++ (c ∷ [])))
move (after_value n xs) blank c = plain_move (in_tag n xs)
move (after_value n xs) slash c = plain_move (after_slash n xs)
move (after_value n xs) greater c = mark_move (starts n xs)
move (after_value n xs) _ c = plain_move at_fault
move (after_slash n xs) greater c = mark_move (stands n xs)
move (after_slash n xs) _ c = plain_move at_fault
move at_fault _ c = plain_move at_fault

-- a file may end only between tags
abbrev pub at_end : Scanner → List Mark
at_end (in_text t) = text_marks t
at_end _ = fault ∷ []

abbrev pub scan : Scanner → List ℕ → List Mark
scan p [] = at_end p
scan p (c ∷ cs) = let m = move p (class c) c in m.gives ++ scan m.next cs

abbrev pub marks : List ℕ → List Mark
marks bs = scan (in_text []) bs
