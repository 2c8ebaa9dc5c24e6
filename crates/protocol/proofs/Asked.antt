-- What a question that was answered yes tells of the party.
use Rattle.std.proofs.Common.{◌≡◌, ℕ, ◌≤◌, true, leb, Option, arith}
use Rattle.std.proofs.lemmas.Bool.Decides.{nat_tests}
use Rattle.protocol.specs.declared.party.Beat.{Beat}
use Rattle.protocol.specs.Questions.{asks, is_party}
use Rattle.std.specs.Prelude.{is_some}

pub asked_party : (n i x : ℕ) → asks (is_party n i) 6 x ≡ 0 → (1 ≤ i) × (i ≤ n)
asked_party n i x e = grind (arith, nat_tests)

pub asked_low : (n i x : ℕ) → asks (leb i n) 6 x ≡ 0 → i ≤ n
asked_low n i x e = grind (arith, nat_tests)

pub asked_beat : (n i : ℕ) (o : Option Beat) (x : ℕ) → asks (is_party n i) 6 (asks (is_some o) 9 x) ≡ 0 → (1 ≤ i) × (i ≤ n) × (is_some o ≡ true)
asked_beat n i o x e = grind (arith, nat_tests)
