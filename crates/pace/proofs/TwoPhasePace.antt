-- The waits in two phases, each by its place.
use Rattle.std.specs.Prelude.{◌≡◌, ℕ, zero, suc, ◌<◌, ◌≤◌, replicate, Some, None, ◌≢◌, refl}
use Rattle.std.proofs.Common.{ap, ◌∙◌, arith}
use Rattle.std.specs.List.{slice_get}
use Rattle.std.proofs.lemmas.List.{length-replicate, get_or-replicate}
use Rattle.std.proofs.lemmas.Option.{slice_get-get_or, slice_get_past}
use Rattle.pace.specs.TwoPhase.{phases}

-- the waits after the first
pub nth_phases : (n tmin tmax k : ℕ) → (k ≢ 0) → k < suc n → slice_get (phases n tmin tmax) k ≡ Some tmin
nth_phases n tmin tmax zero a b = absurd (a refl)
nth_phases n tmin tmax (suc k) a b =
    let e = length-replicate n tmin in
    slice_get-get_or (replicate n tmin) k 0 (omega arith) ∙ ap Some (get_or-replicate n k tmin 0 (omega arith))

pub nth_phases_past : (n tmin tmax k : ℕ) → suc n ≤ k → slice_get (phases n tmin tmax) k ≡ None
nth_phases_past n tmin tmax k h = let e = length-replicate n tmin in slice_get_past (phases n tmin tmax) k (omega arith)
