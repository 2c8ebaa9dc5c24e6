use Rattle.std.proofs.Common.{◌≡◌, ◌<◌, ◌∷◌, length, sym, ap, ◌∙◌, arith, rules}
use borrow.Author.Tests.{tests}
use Rattle.std.proofs.lemmas.Bool.Decides.{nat_tests}
use Rattle.std.specs.List.{after_first}
use Rattle.schedule.specs.Cuts.{is_blank, words_in}
use Rattle.schedule.proofs.Pieces.{after_lt}
use Rattle.schedule.proofs.Taking.{one_word, one_blank, no_word}
use Rattle.schedule.proofs.words.WordsIterator.next.Goals as goal

pub returns-then-not-is_empty : goal.returns-then-not-is_empty
returns-then-not-is_empty c =
    let bs = c.loop-word.self.rest.now in
    let cut = c.cut.ensures is_blank (λ b r k. search (rules, tests)) in
    let t = c.loop-word-test.ensures in
    let u = c.if-not-is_empty.ensures in
    let some : 0 < length bs = grind (arith, nat_tests) in
    let word : 0 < length c.cut.result.0.now = grind (arith, nat_tests) in
    let long = ap length cut.0 in
    let one = sym c.loop-word.invariant ∙ one_word bs some (omega arith) in
    let taken = one ∙ ap (λ z. z ∷ words_in (after_first is_blank bs)) (sym cut.0) ∙ ap (λ z. c.cut.result.0.now ∷ words_in z) (sym cut.1) in
    record { steps = taken; goes = let fewer = ap length taken in search rules }

pub loop-word-smaller : goal.loop-word-smaller
loop-word-smaller c =
    let bs = c.loop-word.self.rest.now in
    let t = c.loop-word-test.ensures in
    let some : 0 < length bs = grind (arith, nat_tests) in
    let cut = c.cut.ensures is_blank (λ b r k. search (rules, tests)) in
    let e = ap length cut.1 in
    let l = after_lt is_blank bs some in
    omega arith

pub loop-word-preserved : goal.loop-word-preserved
loop-word-preserved c =
    let bs = c.loop-word.self.rest.now in
    let cut = c.cut.ensures is_blank (λ b r k. search (rules, tests)) in
    let t = c.loop-word-test.ensures in
    let u = c.if-not-is_empty.ensures in
    let some : 0 < length bs = grind (arith, nat_tests) in
    let none : length c.cut.result.0.now ≡ 0 = grind (arith, nat_tests) in
    let long = ap length cut.0 in
    ap words_in cut.1 ∙ sym (one_blank bs some (omega arith)) ∙ c.loop-word.invariant

pub returns-clause-steps : goal.returns-clause-steps
returns-clause-steps c =
    let bs = c.loop-word.self.rest.now in
    let t = c.loop-word-test.ensures in
    let none : length bs ≡ 0 = grind (arith, nat_tests) in
    (sym c.loop-word.invariant ∙ no_word bs none, no_word bs none)
