use Rattle.std.proofs.Common.{◌≡◌, ◌^◌, sum, arith, rules, tests}
use Rattle.std.proofs.lemmas.Iterator.Consumers.{fits_from_yields_list, sum_from_yields_List}
use Rattle.pace.proofs.Sums.{sum_small, gives_waits}
use Rattle.pace.proofs.total.total.Goals as goal

pub sum-requires-clause-fits : goal.sum-requires-clause-fits
sum-requires-clause-fits g c =
    let p = g.P.Pace.means c.args.p.now in
    fits_from_yields_list c.map.result (2 ^ 32)
    (gives_waits _ p.waits _ c.rounds.ensures c.map.ensures.source c.map.ensures.closure (λ k r q h. search (rules, tests)))
    (omega (arith, sum_small p (g.met.P.Pace.lawful c.args.p.now)))

pub returns : goal.returns
returns g c =
    let p = g.P.Pace.means c.args.p.now in
    let s : c.sum.result ≡ sum p.waits = sum_from_yields_List c.map.result c.sum.result c.sum.ensures.ran
    (gives_waits _ p.waits _ c.rounds.ensures c.map.ensures.source c.map.ensures.closure (λ k r q h. search (rules, tests))) in
    record { sum = s; small = omega (arith, s, sum_small p (g.met.P.Pace.lawful c.args.p.now)) }
