-- The part of a forest that fits in a number of bytes.
use Rattle.std.specs.Prelude.{◌≡◌, ℕ, ◌+◌, ◌-◌, ◌<◌, Bool, cond, List, [], ◌∷◌, ◌++◌, length, nat_le}
use Rattle.markup.specs.Forests.{Spelling, Forest, none, element}

-- the bytes of an element's own text
abbrev pub size : {T : Type 0} → Spelling T → T → ℕ
size w t = length (w.opening t) + length (w.closing t)

-- the bytes of a forest's text
abbrev pub cost : {T : Type 0} → Spelling T → Forest T → ℕ
cost w none = 0
cost w (element t i a) = size w t + cost w i + cost w a

abbrev pub all_fits : {T : Type 0} → Spelling T → ℕ → Forest T → Bool
all_fits w room f = nat_le (cost w f) room

-- what is written of a forest: an element is begun only if its opening and its closing fit beside
-- the closings of all that is open; the first that does not fit ends the writing
abbrev pub fitting_part : {T : Type 0} → Spelling T → ℕ → Forest T → Forest T
fitting_part w room none = none
fitting_part w room (element t i a) =
    cond
    (nat_le (size w t) room)
    (cond
    (all_fits w (room - size w t) i)
    (element t i (fitting_part w (room - size w t - cost w i) a))
    (element t (fitting_part w (room - size w t) i) none))
    none

-- the elements, each before those that begin later
abbrev pub elements : {T : Type 0} → Forest T → List T
elements none = []
elements (element t i a) = t ∷ (elements i ++ elements a)

-- the elements written are the first ones of all, and the next did not fit beside them
pub record EndsAt {T : Type 0} (w : Spelling T) (room : ℕ) (f : Forest T) : Type 0 where
  pub next : T
  pub rest : List T
  pub order : elements f ≡ elements (fitting_part w room f) ++ (next ∷ rest)
  pub full : room < cost w (fitting_part w room f) + size w next
