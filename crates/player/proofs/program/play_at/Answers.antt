use Rattle.std.proofs.Common.{◌≡◌, ℕ, List, Err, Result, sym, refl, ap, ap₂, ◌∙◌, subst, arith, rules}
use Rattle.std.proofs.lemmas.Result.{err_from_is_err_and}
use Rattle.pace.specs.declared.cap.Cap.{Cap}
use Rattle.protocol.specs.declared.plan.Plan.{Plan}
use Rattle.pace.specs.Cap.{capped_meaning}
use Rattle.pace.specs.laws.Cap.{capped_lawful}
use Rattle.slots.specs.Slots.{items}
use Rattle.protocol.specs.declared.happening.Happening.{Happening}
use Rattle.protocol.specs.State.{new_table}
use Rattle.protocol.specs.Views.{state_of}
use Rattle.graphml.specs.declared.answer.Exported.{Exported}
use Rattle.graphml.specs.declared.answer.Refusal.{Refusal}
use Rattle.graphml.specs.Lent.{lent}
use Rattle.player.specs.Playing.{stop_told}
use Rattle.player.specs.Told.{bytes_told, lines_told}
use Rattle.player.specs.Program.{cap_and_plan_no, Prints, SetUpComesTo}
use Rattle.player.proofs.Files.{not_set_up, set_up, told_within, played}
use Rattle.player.proofs.program.play_at.Given as given
use Rattle.player.proofs.program.play_at.Goals as goal
use Rattle.player.proofs.program.play_at.Goals.{After-export}

pub returns-in_err-pace-clause-run : goal.returns-in_err-pace-clause-run
returns-in_err-pace-clause-run g c =
    let p = err_from_is_err_and c.from_residual.result c.from_residual.ensures.1 in
    let r = p.1 ∙ ap Err p.2 in
    let e = c.in_err-pace.ensures in
    not_set_up _ _ _ _ _ _ _ _ e.granted.1 e.refused r

-- what it came to, once the run was exported
comes_to : (g : given.Over) (c : After-export g) (hs' : List Happening) (r : Result Exported Refusal) (bytes : ℕ) (lines : List ℕ) → hs' ≡ c.play-played.new.log.slots.now →
    c.export.result ≡ r → Prints r (stop_told c.play-played.result) bytes lines →
    SetUpComesTo (cap_and_plan_no c.args.start) (capped_meaning c.args.start.cap (g.P.Pace.means c.args.pace)) c.args.start (items c.args.orders.now)
    (record { log = lent c.args.log_slots.now hs'; out = lent c.args.out.now c.export.new.out; bytes = bytes; lines = lines })
comes_to g c hs' r bytes lines back was prints =
    let means = g.P.Pace.means in
    let start = c.args.start in
    let o = c.in_ok-pace.ensures in
    let opened = c.open-group.ensures in
    let group = c.open-group.result in
    let p = c.play-played.ensures in
    let e = c.export.ensures in
    let cap = λ (x : Cap _ _). capped_meaning x.m (means x.pace) in
    let sound = capped_lawful group.pace.m (means group.pace.pace) group.pace.some (g.met.P.Pace.lawful group.pace.pace) in
    let x = c.play-played.new in
    let same : cap group.pace ≡ capped_meaning start.cap (means c.args.pace) =
    ap cap opened.pace ∙ ap₂ (λ n q. capped_meaning n (means q)) o.pace.1 o.pace.0 in
    let kind : group.plan.kind ≡ start.kind = ap (λ (q : Plan). q.kind) opened.plan ∙ o.plan.0 in
    let parties : group.plan.n ≡ start.parties = ap (λ (q : Plan). q.n) opened.plan ∙ o.plan.1 in
    let new = opened.table ∙ ap₂ (λ (x : Cap _ _) (q : Plan). new_table (cap x).tmax q.kind) (sym opened.pace) (sym opened.plan) in
    set_up start _ (cap group.pace) group.plan _ _ (o.granted.0 refl) same kind parties
    (played (items c.args.orders.now) c.args.log_slots.now group x.group c.new-log.result x.log c.play-played.result sound
    new c.new-log.ensures.empty c.new-log.ensures.spare p
    hs' c.args.out.now c.export.new.out c.export.result bytes lines
    back e.answer e.bytes e.whole e.cut e.closes e.shown (subst (λ y. Prints y (stop_told c.play-played.result) bytes lines) (sym was) prints))

pub returns-in_err-exported-clause-run : goal.returns-in_err-exported-clause-run
returns-in_err-exported-clause-run g c =
    let p = err_from_is_err_and c.from_residual-in_err-exported.result c.from_residual-in_err-exported.ensures.1 in
    let r = p.1 ∙ ap Err p.2 in
    let tie = c.play-played.ensures.stays.extends.lent ∙ c.new-log.ensures.lent in
    comes_to g (goal.at.returns-in_err-exported-clause-run g c).After-export _ _ _ _ (search rules) c.in_err-exported.was (ap bytes_told r, ap lines_told r)

pub returns : goal.returns
returns g c =
    let e = c.in_ok-exported.ensures in
    let x = c.play-played.new in
    let tie = c.play-played.ensures.stays.extends.lent ∙ c.new-log.ensures.lent in
    record {
      run =
          comes_to g (goal.at.returns g c).After-export _ _ _ _ (search rules) c.in_ok-exported.was (refl, refl);
      within = told_within (state_of x.group.table x.log) x.group.plan.n c.args.out.now c.export.new.out _ e.answer e.bytes (omega arith);
    }
