-- What the law of paces gives of sums of waits.
use Rattle.std.proofs.Common.{◌≡◌, ℕ, zero, suc, ◌+◌, ◌<◌, ◌≤◌, List, ◌∷◌, length, get_or, drop, map, unwrap_or, sum, sym, refl, ap, ◌∙◌, subst, arith, add-one, drop-cons}
use Rattle.std.specs.List.{slice_get, range_with_len, AllByRecursion as All}
use Rattle.std.specs.Fn.{Called}
use Rattle.std.specs.Iterator.Adapters.{map_source, map_callee, map_steps}
use Rattle.std.specs.declared.ops.Range.{Range}
use Rattle.std.specs.declared.iter.Map.{Map}
use Rattle.std.proofs.ByRecursion.{All-from_get_or, sum_by_le}
use Rattle.std.proofs.iter.Yields.{nat_range_steps}
use Rattle.std.proofs.lemmas.Iterator.{YieldsList, YieldsList-from_range, YieldsList-from_map}
use Rattle.std.proofs.lemmas.Iterator.Consumers.{YieldsList-at}
use Rattle.std.proofs.lemmas.List.{drop_all}
use Rattle.std.proofs.lemmas.Option.{unwrap_or-slice_get}
use Rattle.pace.specs.Meaning.{Meaning, Lawful}
use denote.Param.Members.{Mut}

pub sum_small : (m : Meaning) → Lawful m → sum m.waits ≤ 64000000
sum_small m law =
    let each : All (λ x. x ≤ 1000000) m.waits = All-from_get_or (λ x. x ≤ 1000000) m.waits 0 (λ k h. omega (arith, law.roof k h)) in
    omega (arith, sum_by_le (λ x. x) 1000000 m.waits each)

-- the wait at a place, 0 past the last
abbrev pub wait_at : List ℕ → ℕ → ℕ
wait_at ws k = unwrap_or (slice_get ws k) 0

-- the waits at the last n places
from_place : (ws : List ℕ) (a n : ℕ) → a + n ≡ length ws → map (wait_at ws) (range_with_len a n) ≡ drop a ws
from_place ws a zero h = sym (drop_all a ws (omega arith))
from_place ws a (suc n) h =
    let lt : a < length ws = omega arith in
    let here : wait_at ws a ≡ get_or ws a 0 = unwrap_or-slice_get ws a 0 in
    let rest : map (wait_at ws) (range_with_len (a + 1) n) ≡ drop (a + 1) ws = from_place ws (a + 1) n (omega arith) in
    ap (λ (w : ℕ). w ∷ map (wait_at ws) (range_with_len (a + 1) n)) here ∙ ap (λ (xs : List ℕ). get_or ws a 0 ∷ xs) rest ∙ rw add-one (sym (drop-cons ws a 0 lt))

-- asked for the wait at each place, the chain gives every wait
pub gives_waits : {F : Type 0} {s : Map (Range ℕ) F} (g : Mut F (ℕ × Unit {0}) ℕ) {f : F} (ws : List ℕ) (n : ℕ) → n ≡ length ws
    → map_source s ≡ record { start = 0; end = n } → map_callee s ≡ f → ((k r : ℕ) (q : F) → Called g f (k, tt) r q → (q ≡ f) × (r ≡ wait_at ws k))
    → YieldsList (map_steps nat_range_steps g) (λ r. r) s ws
gives_waits {F} {s} g ws n long at closure called =
    let all : map (wait_at ws) (range_with_len 0 (length ws)) ≡ ws = from_place ws 0 (length ws) (omega arith) in
    subst (λ (xs : List ℕ). YieldsList (map_steps nat_range_steps g) (λ r. r) s xs) all
    (YieldsList-from_map g (wait_at ws) (YieldsList-at at (YieldsList-from_range 0 n (length ws) refl (omega arith))) closure called)
