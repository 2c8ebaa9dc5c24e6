-- When an append is granted.
use Rattle.std.proofs.Common.{◌≡◌, ℕ, ◌<◌, ◌≤◌, List, length, Ok, arith}
use Rattle.std.proofs.lemmas.Bool.{ne_eqb, le-ltb}
use Rattle.slots.specs.Slots.{last_time, append_answer}

module _ {X : Type 0} (time : X → ℕ) (xs ys : List X) (x : X) where
  pub says_ok : 0 < length ys → last_time time xs ≤ time x → Ok tt ≡ append_answer time xs ys x
  says_ok h le =
      let e = ne_eqb (length ys) 0 (λ z. omega arith) in let f = le-ltb (time x) (last_time time xs) le in simp (e, f)
