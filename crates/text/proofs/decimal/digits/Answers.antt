use Rattle.std.proofs.Common.{◌≡◌, ◌+◌, ◌-◌, ◌/◌, ◌%◌, ◌<◌, ◌∷◌, ◌++◌, length, drop, sym, refl, ap, ◌∙◌, subst, arith, length-set}
use Rattle.std.proofs.lemmas.List.{drop-set}
use Rattle.text.proofs.Numbers.{front, last_digit, next_digit, fewer, writes}
use Rattle.text.specs.Numeral.{Writes}
use Rattle.text.proofs.decimal.digits.Goals as goal

pub loop-rest-init : goal.loop-rest-init
loop-rest-init c = (omega arith, omega arith, refl, last_digit c.args.n (omega arith))

pub loop-rest-preserved : goal.loop-rest-preserved
loop-rest-preserved c =
    let at = c.loop-rest.first in
    let rest = c.loop-rest.rest in
    let some : 0 < rest = omega arith in
    let less = fewer rest at some c.loop-rest.invariant.1 in
    let back : at - 1 + 1 ≡ at = omega arith in
    let within : at - 1 < length c.loop-rest.bytes = omega arith in (
      omega arith,
      less.1,
      length-set _ _ _ ∙ c.loop-rest.invariant.2,
      ap (λ l. front (rest / 10) ++ l) (drop-set c.loop-rest.bytes (at - 1) (48 + rest % 10) within ∙ ap (λ k. (48 + rest % 10) ∷ drop k c.loop-rest.bytes) back) ∙ next_digit rest _ some ∙ c.loop-rest.invariant.3,
    )

pub returns : goal.returns
returns c =
    let none : c.loop-rest.rest ≡ 0 = omega arith in
    let e = ap (λ r. front r ++ drop c.loop-rest.first c.loop-rest.bytes) (sym none) ∙ c.loop-rest.invariant.3 in
    record { text = e; writes = subst (Writes c.args.n) (sym e) (writes c.args.n (omega arith)) }
