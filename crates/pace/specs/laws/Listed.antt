-- The law of paces, for listed waits to which every question is answered yes.
use Rattle.std.specs.Prelude.{◌≡◌, ℕ, ◌<◌, ◌≤◌, Bool, true, ◌&&◌, List, length, nat_le, slice_index}
use Rattle.std.proofs.Common.{arith}
use Rattle.std.proofs.lemmas.List.Elements.{All-get_or}
use Rattle.std.proofs.lemmas.List.Sums.{AllPass-from_list_all}
use Rattle.std.proofs.lemmas.Bool.Decides.{nat_tests}
use Rattle.pace.specs.declared.limits.Limits.{Limits}
use Rattle.pace.specs.Meaning.{Lawful, meaning_between}
use Rattle.pace.specs.Listed.{all_within, waits_no}

-- each wait lies within the limits
within_each : (tmin tmax : ℕ) (ws : List ℕ) → all_within tmin tmax ws ≡ true →
    (k : ℕ) → k < length ws → (tmin ≤ slice_index ws k) × (slice_index ws k ≤ tmax)
within_each tmin tmax ws e k h =
    let p : ℕ → Bool = λ w. nat_le tmin w && nat_le w tmax in
    let at : p (slice_index ws k) ≡ true =
    All-get_or (λ w. p w ≡ true) ws k 0 h (AllPass-from_list_all p ws e) in
    (grind (arith, nat_tests), grind (arith, nat_tests))

pub allowed_lawful : (l : Limits) (ws : List ℕ) → waits_no l.tmin l.tmax ws ≡ 0 →
    Lawful (meaning_between l ws)
allowed_lawful l ws e =
    let each = within_each l.tmin l.tmax ws (grind (arith, nat_tests)) in
    record {
      low = l.low;
      ordered = l.ordered;
      high = l.high;
      some = grind (arith, nat_tests);
      few = grind (arith, nat_tests);
      first = grind (arith, nat_tests);
      floor = λ k b. (each k b).0;
      roof = λ k b. (each k b).1;
    }
