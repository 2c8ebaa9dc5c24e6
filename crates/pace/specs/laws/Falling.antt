-- Waits that each come from the one before, and never rise, are lawful.
use Rattle.std.specs.Prelude.{◌≡◌, ℕ, zero, suc, ◌<◌, ◌≤◌, Bool, true, false, length, nat_le, slice_index, refl}
use Rattle.std.proofs.Common.{arith}
use Rattle.std.proofs.lemmas.Bool.{leb-true}
use Rattle.pace.specs.declared.limits.Limits.{Limits}
use Rattle.pace.specs.Meaning.{Lawful, meaning_between}
use Rattle.pace.specs.Falling.{falling_waits}

module _ (next : ℕ → ℕ) (falls : (w : ℕ) → next w ≤ w) where
  few : (go : Bool) (most tmin w : ℕ) → length (falling_waits next go most tmin w) ≤ most
  few false most tmin w = omega arith
  few true zero tmin w = omega arith
  few true (suc most) tmin w = omega (arith, few (nat_le tmin (next w)) most tmin (next w))

  each : (go : Bool) (most tmin w : ℕ) → (go ≡ true → tmin ≤ w) →
      (k : ℕ) → k < length (falling_waits next go most tmin w) →
      (tmin ≤ slice_index (falling_waits next go most tmin w) k)
      × (slice_index (falling_waits next go most tmin w) k ≤ w)
  each false most tmin w at k h = absurd (omega arith)
  each true zero tmin w at k h = absurd (omega arith)
  each true (suc most) tmin w at zero h = (at refl, omega arith)
  each true (suc most) tmin w at (suc k) h =
      let r = each (nat_le tmin (next w)) most tmin (next w) (leb-true tmin (next w)) k (omega arith) in
      (r.0, omega (arith, r.1, falls w))

  pub falling_lawful : (l : Limits) (n : ℕ) → n ≤ 63 →
      Lawful (meaning_between l (falling_waits next true (suc n) l.tmin l.tmax))
  falling_lawful l n h =
      let at = each true (suc n) l.tmin l.tmax (λ _. l.ordered) in
      record {
        low = l.low;
        ordered = l.ordered;
        high = l.high;
        some = omega arith;
        few = omega (arith, few true (suc n) l.tmin l.tmax);
        first = refl;
        floor = λ k b. (at k b).0;
        roof = λ k b. (at k b).1;
      }
