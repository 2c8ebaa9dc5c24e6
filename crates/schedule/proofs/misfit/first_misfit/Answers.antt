use Rattle.std.proofs.Common.{◌+◌, sym, ap, ◌∙◌, drop, arith}
use Rattle.std.proofs.lemmas.List.{drop_more, drop_all}
use Rattle.schedule.specs.Cuts.{words_in}
use Rattle.schedule.specs.Misfits.{first_misfit}
use Rattle.schedule.proofs.Misplaced.{found_misfit, passed_place, no_place, word_taken}
use Rattle.schedule.proofs.misfit.first_misfit.Goals as goal

pub returns-in-Some : goal.returns-in-Some
returns-in-Some c =
    let l = c.loop-place in
    let ps = c.args.places.now in
    let ws = words_in l.words.rest.now in
    let t = word_taken c.next-word.result ws (words_in c.next-word.new.self.rest.now) c.next-word.ensures.steps in
    sym (l.invariant ∙ found_misfit _ _ _ ws (drop_more ps l.place-index _ c.loop-place-test.true) _ c.in-Some.cause t.0 (sym c.in-Some.ensures))

pub loop-place-preserved : goal.loop-place-preserved
loop-place-preserved c =
    let l = c.loop-place in
    let ps = c.args.places.now in
    let ws = words_in l.words.rest.now in
    let t = word_taken c.next-word.result ws (words_in c.next-word.new.self.rest.now) c.next-word.ensures.steps in
    l.invariant
    ∙ passed_place _ _ _ ws (drop_more ps l.place-index _ c.loop-place-test.true) _ t.0 (sym c.in_default.ensures)
    ∙ ap (first_misfit (drop (l.place-index + 1) ps)) t.1

pub returns : goal.returns
returns c =
    let l = c.loop-place in
    sym (l.invariant ∙ no_place _ (words_in l.words.rest.now) (drop_all l.place-index c.args.places.now (omega arith)))
