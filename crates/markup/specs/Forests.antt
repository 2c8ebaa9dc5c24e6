-- Elements that stand inside one another and after one another, and their text.
use Rattle.std.specs.Prelude.{ℕ, ◌+◌, List, [], ◌++◌}

-- the text that opens an element, and the text that closes it
pub record Spelling (T : Type 0) : Type 0 where
  pub opening : T → List ℕ
  pub closing : T → List ℕ

-- an element, then the forest inside it, then the forest after it
pub data Forest (T : Type 0) : Type 0 where
  none : Forest T
  element : T → Forest T → Forest T → Forest T

-- everything inside an element stands between its opening and its closing
abbrev pub render : {T : Type 0} → Spelling T → Forest T → List ℕ
render w none = []
render w (element t i a) = w.opening t ++ render w i ++ w.closing t ++ render w a

-- an element with nothing inside and nothing after it
abbrev pub one : {T : Type 0} → T → Forest T
one t = element t none none

-- how much its elements count together
abbrev pub count : {T : Type 0} → (T → ℕ) → Forest T → ℕ
count of none = 0
count of (element t i a) = of t + count of i + count of a

-- so it is of each element
abbrev pub Each : {T : Type 0} → (T → Type 0) → Forest T → Type 0
Each P none = Unit {0}
Each P (element t i a) = P t × Each P i × Each P a
