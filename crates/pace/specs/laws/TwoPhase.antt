-- The law of paces, for the pace in two phases.
use Rattle.std.specs.Prelude.{◌≡◌, ℕ, zero, suc, ◌<◌, ◌≤◌, length, replicate, slice_index, slice_index_or, refl}
use Rattle.std.proofs.Common.{arith}
use Rattle.std.proofs.lemmas.List.{length-replicate, get_or-replicate}
use Rattle.pace.specs.declared.limits.Limits.{Limits}
use Rattle.pace.specs.Meaning.{Lawful, meaning_between}
use Rattle.pace.specs.TwoPhase.{phases}

phases_lawful : (l : Limits) (n : ℕ) → n ≤ 63 → Lawful (meaning_between l (phases n l.tmin l.tmax))
phases_lawful l n h = record {
  low = l.low;
  ordered = l.ordered;
  high = l.high;
  some = omega arith;
  few = simp length-replicate (omega arith);
  first = refl;
  floor = λ k b. (each k b).0;
  roof = λ k b. (each k b).1;
}
  where
    each : (k : ℕ) → k < length (phases n l.tmin l.tmax) →
        (l.tmin ≤ slice_index (phases n l.tmin l.tmax) k)
        × (slice_index (phases n l.tmin l.tmax) k ≤ l.tmax)
    each zero b = (l.ordered, omega arith)
    each (suc k) b =
        let e = length-replicate n l.tmin in
        let s : slice_index_or (replicate n l.tmin) k 0 ≡ l.tmin =
        get_or-replicate n k l.tmin 0 (omega arith) in
        (omega (arith, s), omega (arith, s, l.ordered))

-- 64 waits are as many as a pace may have
pub two_phase_lawful : (l : Limits) → Lawful (meaning_between l (phases 63 l.tmin l.tmax))
two_phase_lawful l = phases_lawful l 63 (omega arith)
