-- The law of paces, for a lawful pace under a cap.
use Rattle.std.specs.Prelude.{ℕ, ◌≤◌}
use Rattle.std.proofs.Common.{◌∙◌, arith}
use Rattle.std.proofs.lemmas.List.{length-take, get_or-take}
use Rattle.pace.specs.Meaning.{Meaning, Lawful}
use Rattle.pace.specs.Cap.{capped_meaning}

pub capped_lawful : (m : ℕ) (p : Meaning) → 1 ≤ m → Lawful p → Lawful (capped_meaning m p)
capped_lawful m p h law = record {
  low = law.low;
  ordered = law.ordered;
  high = law.high;
  some = omega (arith, length-take m p.waits, law.some);
  few = omega (arith, length-take m p.waits, law.few);
  first = get_or-take m p.waits 0 0 h ∙ law.first;
  floor = λ k b. omega (arith, length-take m p.waits, get_or-take m p.waits k 0, law.floor k);
  roof = λ k b. omega (arith, length-take m p.waits, get_or-take m p.waits k 0, law.roof k);
}
