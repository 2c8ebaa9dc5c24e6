-- What a call was lent to write into.
use Rattle.std.specs.Prelude.{List}

-- the slots or bytes that a call was lent: what they held, and what they hold after it
pub record Lent (A : Type 0) : Type 0 where
  pub before : List A
  pub after : List A

abbrev pub lent : {A : Type 0} → (before after : List A) → Lent A
lent before after = record { before = before; after = after }
