use Rattle.std.proofs.Common.{◌≡◌, ◌<◌, ◌∷◌, length, sym, refl, ap, ◌∙◌, arith, rules}
use Rattle.std.proofs.lemmas.Bool.Decides.{nat_tests}
use Rattle.std.specs.List.{after_first}
use Rattle.schedule.specs.Cuts.{ends_line, lines_in}
use Rattle.schedule.proofs.Pieces.{after_lt}
use Rattle.schedule.proofs.Taking.{one_line, no_line}
use Rattle.schedule.proofs.lines.LinesIterator.next.Goals as goal

pub returns-then-is_empty-clause-steps : goal.returns-then-is_empty-clause-steps
returns-then-is_empty-clause-steps c =
    let bs = c.args.self.now.rest.now in
    let t = c.if-is_empty.ensures in
    let none : length bs ≡ 0 = grind (arith, nat_tests) in
    let e = no_line bs none in
    (e, e, refl)

pub invariant_of-self : goal.invariant_of-self
invariant_of-self c =
    let bs = c.args.self.now.rest.now in
    let t = c.if-is_empty.ensures in
    let some : 0 < length bs = grind (arith, nat_tests) in
    let cut = c.cut.ensures ends_line (λ b r k. search rules) in
    let e = ap length cut.1 in
    let l = after_lt ends_line bs some in
    record { fits = omega arith }

pub returns : goal.returns
returns c =
    let bs = c.args.self.now.rest.now in
    let cut = c.cut.ensures ends_line (λ b r k. search rules) in
    let t = c.if-is_empty.ensures in
    let some : 0 < length bs = grind (arith, nat_tests) in
    let taken = one_line bs some ∙ ap (λ z. z ∷ lines_in (after_first ends_line bs)) (sym cut.0) ∙ ap (λ z. c.cut.result.0.now ∷ lines_in z) (sym cut.1) in
    record { steps = (taken, refl); goes = let fewer = ap length taken in search rules }
