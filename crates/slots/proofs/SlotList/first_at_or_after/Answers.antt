use Rattle.std.proofs.Common.{◌<◌, ◌≤◌, rules, tests}
use Rattle.std.proofs.lemmas.Iterator.{YieldsList-from_slice, IsFirst-from_position}
use Rattle.slots.specs.Slots.{items, First}
use Rattle.slots.proofs.Places.{first_found, first_is}
use Rattle.slots.proofs.SlotList.first_at_or_after.Goals as goal

pub returns : goal.returns
returns g c =
    let time = g.T.Timed.time in
    let t = c.args.tick in
    let xs = items c.args.self.now in
    let first : First time t xs c.position.result =
    first_found time t xs c.position.result
    (IsFirst-from_position _ _ _ (λ x. t ≤ time x) (λ x. time x < t) c.position.ensures.ran (YieldsList-from_slice xs cc) (λ x q k. search (rules, tests)) (λ x q k. search (rules, tests)))
    in
    record { place = first_is time t xs c.position.result first; first = first }
