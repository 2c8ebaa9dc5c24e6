use Rattle.std.proofs.Common.{◌≡◌, ℕ, ◌≤◌, List, length, drop, Result, sym, ap, ap₂, ◌∙◌, subst, subst₂, arith, rules}
use Rattle.slots.proofs.Growing.{items_length, fresh}
use Rattle.protocol.specs.declared.happening.Happening.{Happening}
use Rattle.protocol.specs.State.{State, opening}
use Rattle.protocol.specs.Rehearsals.{Rehearsed}
use Rattle.protocol.proofs.Rehearsal.{keeps}
use Rattle.group.specs.Does.{state, rules as goes_by}
use Rattle.runs.specs.Runs.{rules_over}
use Rattle.runs.proofs.Keeping.{opened}
use Rattle.pace.specs.declared.meaning.Pace.{Ghosts}
use Rattle.group.specs.declared.group.Group.{Group}
use Rattle.graphml.specs.declared.answer.Exported.{Exported}
use Rattle.graphml.specs.declared.answer.Refusal.{Refusal}
use Rattle.graphml.specs.Lent.{lent}
use Rattle.rehearsal.specs.declared.run.Rehearsal.{Rehearsal}
use Rattle.rehearsal.specs.Promise.{Promised}
use Rattle.graphml.proofs.Shown.{shows}
use Rattle.rehearsal.proofs.run.rehearse.Goals as goal

abbrev make_came : {A : Type 0} {D : Ghosts A} → Group A D → ℕ → Result Exported Refusal → Rehearsal A D
make_came group k answer = record { group = group; records = k; exported = answer }

pub returns : goal.returns
returns g c =
    let means = g.P.Pace.means in
    let m = means c.args.pace in
    let plan = c.args.plan in
    let slots = c.args.slots.now in
    let o = c.open-group.ensures in
    let new = c.open-group.result in
    let first = c.new-log.result in
    let slots_are : first.slots.now ≡ slots = fresh first slots c.new-log.ensures.empty c.new-log.ensures.spare in
    let e = c.make_all.ensures in
    let group = c.make_all.new.group in
    let xs = c.make_all.new.steps in
    let l = c.make_all.new.log in
    let s : State = state group l in
    let R = rules_over m plan slots in
    let start = opened c.args.pace plan new first o.pace o.plan o.table c.new-log.ensures.empty in
    let same : goes_by new first ≡ R =
    ap₂ (λ p q. rules_over (means p) q first.slots.now) o.pace o.plan ∙ ap (rules_over m plan) slots_are in
    let all : Rehearsed R (opening R) xs s =
    subst (λ Q. Rehearsed Q (opening Q) xs s) same (subst (λ (z : State). Rehearsed (goes_by new first) z xs s) start e.leads) in
    let kept = keeps R (g.met.P.Pace.lawful c.args.pace) xs s all in
    let x = c.export-exported.ensures in
    let came = λ (k : ℕ). make_came group k c.export-exported.result in
    let promise : Promised R xs (lent slots l.slots.now) (lent c.args.out.now c.export-exported.new.out) (came l.len) = record {
      run = kept;
      later_slots_kept = e.stays.extends.later ∙ ap (λ (ys : List Happening). drop l.len ys) slots_are;
      file = shows R xs s _ _ _ group.plan (e.stays.plan ∙ o.plan) kept
          x.answer x.bytes x.whole x.cut x.closes x.shown;
    } in
    let n : c.len-records.result ≡ l.len = c.len-records.ensures ∙ items_length l in
    let tie = e.stays.extends.lent ∙ c.new-log.ensures.lent in
    let back : (k : ℕ) (ys : List Happening) → k ≡ l.len → ys ≡ l.slots.now → Promised R xs (lent slots ys) (lent c.args.out.now c.export-exported.new.out) (came k) =
    λ k ys e f. subst₂ (λ (k : ℕ) (ys : List Happening). Promised R xs (lent slots ys) (lent c.args.out.now c.export-exported.new.out) (came k)) (sym e) (sym f) promise in
    let inside : (k : ℕ) (ys : List Happening) → k ≡ l.len → ys ≡ l.slots.now → k ≤ length ys =
    λ k ys e f. omega (arith, e, ap length f, l.within) in
    record {
      pace = e.stays.pace ∙ o.pace;
      plan = e.stays.plan ∙ o.plan;
      records = n ∙ sym (items_length l) ∙ sym kept.log_in_order.counted;
      within = inside _ _ n (search rules);
      calls = e.calls;
      promise = back _ _ n (search rules);
    }
