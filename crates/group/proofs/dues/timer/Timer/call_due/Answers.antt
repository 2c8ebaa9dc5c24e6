use Rattle.std.proofs.Common.{◌≡◌, ℕ, ◌+◌, ◌-◌, ◌%◌, ◌<◌, ◌≤◌, false, ◌&&◌, eqb, ltb, sym, ap, ◌∙◌, subst, inl, inr, mod-lt, mod-eq_of_lt, arith}
use native.Mathlib.Nat.{mod-le, mod-add-mod}
use Rattle.std.proofs.lemmas.Bool.Decides.{nat_tests}
use Rattle.group.proofs.dues.timer.Timer.call_due.Goals as goal

-- from a, which is no positive multiple of t, there is none before the next one
before_next_multiple : (t a x : ℕ) → 0 < t → a ≤ x → x < a + (t - a % t) → (0 < a → 0 < a % t) → (ltb 0 x && eqb (x % t) 0) ≡ false
before_next_multiple t a x some from before none =
    let low : a % t < t = mod-lt a some in
    let small : a % t ≤ a = mod-le a t in
    let sum : a + (x - a) ≡ x = omega arith in
    let less : a % t + (x - a) < t = omega arith in
    let rest : x % t ≡ a % t + (x - a) = ap (λ y. y % t) (sym sum) ∙ sym (mod-add-mod a t (x - a)) ∙ mod-eq_of_lt less in
    grind (arith, nat_tests)

pub returns-else-silent-gt0 : goal.returns-else-silent-gt0
returns-else-silent-gt0 c x from before =
    let silent = c.saturating_sub-silent.result in
    let t = c.tmin.result in
    let none : 0 < silent → 0 < silent % t = elim c.else-silent-gt0.either [ inl h ↦ λ _. omega (arith, h.1) | inr h ↦ λ some. absurd (omega (arith, h, some)) ] in
    subst (λ (u : ℕ). (ltb 0 (x - c.args.since) && eqb ((x - c.args.since) % u) 0) ≡ false) c.tmin.ensures
    (before_next_multiple t silent (x - c.args.since) (omega arith) (omega arith) (omega arith) none)
