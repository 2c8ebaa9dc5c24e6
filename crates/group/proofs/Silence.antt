-- What a patience below D does for, while nobody is silent for that long.
use Rattle.std.proofs.Common.{◌≡◌, ℕ, ◌-◌, ◌*◌, ◌<◌, ◌≤◌, true, false, List, length, take, get_or, sym, refl, ◌∙◌, subst, inl, inr, arith}
use Rattle.std.proofs.lemmas.Bool.Decides.{nat_tests}
use Rattle.std.proofs.lemmas.Bool.{cases_lt}
use Rattle.std.proofs.lemmas.List.{get_or-take, get_or_past}
use Rattle.std.specs.List.{list_any}
use Rattle.pace.specs.Meaning.{Meaning, Lawful}
use Rattle.protocol.specs.declared.party.Party.{Party}
use Rattle.protocol.specs.declared.party.Standing.{Standing}
use Rattle.protocol.specs.declared.party.Standing.TheVariants.{Outside, Live, Ended}
use Rattle.protocol.specs.declared.plan.Plan.{Plan}
use Rattle.protocol.specs.declared.table.Table.{Table}
use Rattle.protocol.specs.Rules.{patience}
use Rattle.protocol.specs.Party.{nobody, on_roll}
use Rattle.protocol.specs.calls.Tick.{round_ends}
use Rattle.protocol.specs.Quiet.{with_clock, timer_rests, Rests, Quiet}
use Rattle.protocol.proofs.Lifts.{none_of_any}
use Rattle.protocol.proofs.Numbers.{least_patience}
use Rattle.group.specs.Patience.{silent_for, Suffices}

not_for_longer : (st : Standing) (d e clock : ℕ) (p : Party) → p.own.standing ≡ st → d ≤ e → silent_for d clock p ≡ false → silent_for e clock p ≡ false
not_for_longer st d e clock p is h f = grind (arith, nat_tests)

-- 2 tmax does where nobody is silent for that long
pub least_does : (m : Meaning) → Lawful m → (plan : Plan) (t : Table) (d : ℕ) → d ≡ 2 * m.tmax →
    list_any (silent_for d t.clock) (take plan.n t.parties) ≡ false → Suffices m plan t d
least_does m sound plan t d e none =
    let most : d ≤ patience m plan.kind = omega (arith, least_patience m sound plan.kind) in
    record {
      some = omega (arith, sound.low, sound.ordered);
      most = most;
      alike = λ k h.
          let p = get_or t.parties k nobody in
          let f = none_of_any (silent_for d t.clock) plan.n t.parties nobody refl none k h in
          f ∙ sym (not_for_longer p.own.standing d (patience m plan.kind) t.clock p refl most f);
    }

rests_for_longer : (st : Standing) (d e tmin silent : ℕ) → d ≤ e → timer_rests st d tmin silent ≡ true → timer_rests st e tmin silent ≡ true
rests_for_longer Outside d e tmin silent h f = refl
rests_for_longer (Live g) d e tmin silent h f = grind (arith, nat_tests)
rests_for_longer (Ended how at g) d e tmin silent h f = refl

-- also past the end of the list, where there is nobody
each_rests : (ps : List Party) (d tmin c : ℕ) → ((k : ℕ) → k < length ps → Rests d tmin c (get_or ps k nobody)) → (k : ℕ) → Rests d tmin c (get_or ps k nobody)
each_rests ps d tmin c rest k =
    elim (cases_lt k (length ps)) [
      | inl h ↦ rest k h
      | inr h ↦ subst (Rests d tmin c) (sym (get_or_past ps k nobody h)) (record { legs = refl; timer = refl })
    ]

-- who rests by a patience below D rests by D
pub rests_by : (m : Meaning) (plan : Plan) (t : Table) (d tmin c : ℕ) → Suffices m plan t d → tmin ≡ m.tmin →
    ((k : ℕ) → k < length (take plan.n t.parties) → Rests d tmin c (get_or (take plan.n t.parties) k nobody)) →
    (k : ℕ) → k < plan.n → Rests (patience m plan.kind) m.tmin c (get_or t.parties k nobody)
rests_by m plan t d tmin c does em rest k h =
    let p = get_or t.parties k nobody in
    let member = subst (Rests d tmin c) (get_or-take plan.n t.parties k nobody h) (each_rests (take plan.n t.parties) d tmin c rest k) in
    let r = subst (λ (x : ℕ). Rests d x c p) em member in
    record { legs = r.legs; timer = rests_for_longer p.own.standing d (patience m plan.kind) m.tmin (c - p.own.since) does.most r.timer }

-- what is quiet by a patience below D is quiet by D
pub quiet_by : (m : Meaning) (plan : Plan) (t : Table) (d tmin c : ℕ) → Suffices m plan t d → tmin ≡ m.tmin → round_ends (with_clock c t) ≡ false →
    ((k : ℕ) → k < length (take plan.n t.parties) → Rests d tmin c (get_or (take plan.n t.parties) k nobody)) → Quiet m plan t c
quiet_by m plan t d tmin c does em round rest = record { root = round; parties = rests_by m plan t d tmin c does em rest }

-- nobody of the plan is on the roll
pub nobody_on_roll : (plan : Plan) (t : Table) → list_any (λ (p : Party). on_roll p.note.roll) (take plan.n t.parties) ≡ false →
    (k : ℕ) → k < plan.n → on_roll (get_or t.parties k nobody).note.roll ≡ false
nobody_on_roll plan t none =
    none_of_any (λ (p : Party). on_roll p.note.roll) plan.n t.parties nobody refl none
