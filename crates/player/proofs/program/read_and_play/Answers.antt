use Rattle.std.proofs.Common.{◌≡◌, List, Err, Result, sym, refl, ap, ◌∙◌, rules}
use Rattle.std.proofs.lemmas.Result.{err_from_is_err_and}
use Rattle.pace.specs.Cap.{capped_meaning}
use Rattle.slots.specs.Slots.{items}
use Rattle.orders.specs.declared.fault.ReadFault.{ReadFault}
use Rattle.orders.specs.declared.order.Order.{Order}
use Rattle.orders.specs.declared.start.Start.{Start}
use Rattle.graphml.specs.Lent.{lent}
use Rattle.player.specs.Told.{bytes_told, lines_told}
use Rattle.player.specs.Program.{Outcome, ReadingComesTo, FileComesTo}
use Rattle.player.proofs.Reading.{limits_refused, limits_granted, file_run}
use Rattle.player.proofs.program.read_and_play.Goals as goal
use Rattle.player.proofs.program.read_and_play.Goals.{After-load}

-- what it came to, once the orders were loaded
comes_to : (c : After-load) (os' : List Order) (r : Result Start ReadFault) (came : Outcome) → os' ≡ c.load.new.list.slots.now →
    c.load.result ≡ r → ReadingComesTo r (items c.load.new.list) came →
    FileComesTo c.args.input.now (lent c.args.order_slots.now os') came
comes_to c os' r came back was read =
    let n = c.new-orders.ensures in
    let h = c.load.ensures in
    file_run c.args.input.now c.new-orders.result c.load.new.list _ _ r came n.empty n.spare (sym was ∙ h.answer) h.items h.spare back read

pub returns-in_err-start-clause-run : goal.returns-in_err-start-clause-run
returns-in_err-start-clause-run c =
    let p = err_from_is_err_and c.from_residual.result c.from_residual.ensures.1 in
    let r = p.1 ∙ ap Err p.2 in
    let tie = c.load.ensures.extends.lent ∙ c.new-orders.ensures.lent in
    comes_to (goal.at.returns-in_err-start-clause-run c).After-load _ _ _ (search rules) c.in_err-start.was
    (record { log = refl; output = refl; no_file = ap bytes_told r; told = ap lines_told r })

pub returns-in_err-pace-clause-run : goal.returns-in_err-pace-clause-run
returns-in_err-pace-clause-run c =
    let p = err_from_is_err_and c.from_residual-in_err-pace.result c.from_residual-in_err-pace.ensures.1 in
    let r = p.1 ∙ ap Err p.2 in
    let tie = c.load.ensures.extends.lent ∙ c.new-orders.ensures.lent in
    comes_to (goal.at.returns-in_err-pace-clause-run c).After-load _ _ _ (search rules) c.in_ok-start.was
    (limits_refused c.in_ok-start.start (items c.load.new.list) _ c.in_err-pace.field-0.0 c.in_err-pace.ensures.0
    (record { log = refl; output = refl; no_file = ap bytes_told r; told = ap lines_told r }))

pub returns-clause-run : goal.returns-clause-run
returns-clause-run c =
    let start = c.in_ok-start.start in
    let made = c.in_ok-pace.ensures in
    let tie = c.load.ensures.extends.lent ∙ c.new-orders.ensures.lent in
    comes_to (goal.at.returns-clause-run c).After-load _ _ _ (search rules) c.in_ok-start.was
    (limits_granted start (items c.load.new.list) _ _ made.0 (ap (capped_meaning start.cap) made.1) c.play_at.ensures.run)
