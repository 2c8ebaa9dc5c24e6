use Rattle.std.proofs.Common.{◌+◌, take, drop, sym, ap, ◌∙◌, rules}
use borrow.Author.Tests.{tests}
use Rattle.std.proofs.lemmas.Iterator.{YieldsList-from_slice}
use Rattle.std.proofs.lemmas.Iterator.Search.{position_from_yields_List}
use Rattle.std.proofs.lemmas.List.{take_rest}
use Rattle.std.proofs.lemmas.Option.{cond_some}
use Rattle.schedule.proofs.Pieces.{no_mark}
use Rattle.schedule.proofs.cut.cut.Goals as goal

pub returns-in-Some : goal.returns-in-Some
returns-in-Some g c = λ marks h.
    let bs = c.args.bytes.now in
    let e = position_from_yields_List marks _ _ c.position.result c.position.ensures.ran (YieldsList-from_slice bs cc) (λ x b q k. search (rules, h, tests)) in
    let p = cond_some _ _ _ (sym e ∙ c.in-Some.is) in
    (ap (λ n. take n bs) (sym p.1), take_rest bs _ ∙ ap (λ n. drop (n + 1) bs) (sym p.1))

pub returns : goal.returns
returns g c = λ marks h.
    let bs = c.args.bytes.now in
    let e = position_from_yields_List marks _ _ c.position.result c.position.ensures.ran (YieldsList-from_slice bs cc) (λ x b q k. search (rules, h, tests)) in
    no_mark marks bs (sym e ∙ c.in-None.is)
