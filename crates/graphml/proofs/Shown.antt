-- The file of a run out of what the export promises of it.
use Rattle.std.proofs.Common.{◌≡◌, ℕ, ◌-◌, Bool, true, false, cond, List, length, take, IfOk, Ok, Err, Result, ap, ◌∙◌, subst}
use Rattle.protocol.specs.declared.plan.Plan.{Plan}
use Rattle.protocol.specs.declared.call.Step.{Step}
use Rattle.protocol.specs.Rules.{Rules}
use Rattle.protocol.specs.State.{State}
use Rattle.protocol.specs.Beats.{edges}
use Rattle.protocol.specs.Promise.{KeepsTheRules}
use Rattle.protocol.proofs.Own.{own_log}
use Rattle.graphml.specs.declared.answer.Exported.{Exported}
use Rattle.graphml.specs.declared.answer.Refusal.{Refusal}
use Rattle.graphml.specs.declared.answer.Refusal.TheVariants.{LogDiffers}
use Rattle.graphml.specs.Body.{body}
use Rattle.markup.specs.Closing.{Closes}
use Rattle.graphml.specs.Log.{ShowsTheLog}
use Rattle.graphml.specs.Answer.{in_frame, run_answer, run_bytes}
use Rattle.graphml.specs.Export.{export_answer, export_bytes}
use Rattle.graphml.specs.Lent.{lent}
use Rattle.graphml.specs.Shown.{ShowsTheDeliveries, ShowsTheRun}
use Rattle.markup.specs.Cut.{EndsAt}
use Rattle.graphml.specs.Elements.{spelling}

if_ok : (r : Result Exported Refusal) (P Q : Exported → Type 0) → ((x : Exported) → P x → Q x) → IfOk r P → IfOk r Q
if_ok (Ok x) P Q f h = f x h
if_ok (Err e) P Q f h = tt

-- the premises of what a file shows of a log hold of each run
deliveries_shown :
    (rules : Rules) (steps : List Step) (s : State) (x : Exported) (bs : List ℕ) →
    KeepsTheRules rules steps s → ShowsTheLog rules.plan.n s.log x bs → x.whole ≡ true → ShowsTheDeliveries rules steps s.log bs
deliveries_shown rules steps s x bs kept shown whole = record {
  edges = edges 0 s.log;
  read = shown.edges whole;
  deliveries = kept.edges_are_the_granted_deliveries;
  each_place_once = shown.each_place_once whole kept.log_in_order.owned;
  edges_have_both_ends =
      shown.edges_have_both_ends whole kept.log_in_order.owned kept.beats_go_back_to_their_sendings.arrivals;
}

-- the export was made of a group whose plan is the run's
pub shows :
    (rules : Rules) (steps : List Step) (s : State) (out out' : List ℕ) (r : Result Exported Refusal) (p : Plan) → p ≡ rules.plan →
    KeepsTheRules rules steps s → r ≡ export_answer s p.n (length out) → out' ≡ export_bytes s p.n out →
    IfOk r (λ x. x.whole ≡ true → take x.bytes out' ≡ in_frame (body s.log p.n)) →
    IfOk r (λ x. x.whole ≡ false → EndsAt spelling (length out - 275) (body s.log p.n)) →
    IfOk r (λ x. Closes (take x.bytes out')) →
    IfOk r (λ x. ShowsTheLog p.n s.log x (take x.bytes out')) →
    ShowsTheRun rules steps s (lent out out') r
shows rules steps s out out' r p same kept answer bytes whole cut closes shown =
    let mine = own_log rules s kept.log_in_order in
    let log_shown = subst (λ (q : Plan). IfOk r (λ x. ShowsTheLog q.n s.log x (take x.bytes out'))) same shown in
    record {
      answer_as_defined =
          answer ∙ ap (λ (q : Plan). export_answer s q.n (length out)) same
          ∙ ap (λ (b : Bool). cond b (run_answer s.log rules.plan.n (length out)) (Err LogDiffers)) mine;
      bytes_as_defined =
          bytes ∙ ap (λ (q : Plan). export_bytes s q.n out) same ∙ ap (λ (b : Bool). cond b (run_bytes s.log rules.plan.n out) out) mine;
      whole_as_defined = subst (λ (q : Plan). IfOk r (λ x. x.whole ≡ true → take x.bytes out' ≡ in_frame (body s.log q.n))) same whole;
      cut_at_the_first_that_does_not_fit = subst (λ (q : Plan). IfOk r (λ x. x.whole ≡ false → EndsAt spelling (length out - 275) (body s.log q.n))) same cut;
      closes = closes;
      shows_the_log = log_shown;
      shows_the_deliveries = if_ok r _ _ (λ x. deliveries_shown rules steps s x (take x.bytes out') kept) log_shown;
    }
