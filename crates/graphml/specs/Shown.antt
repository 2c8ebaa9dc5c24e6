-- What the file of a run shows of it.
use Rattle.std.specs.Prelude.{◌≡◌, ℕ, ◌-◌, ◌<◌, true, false, List, length, take, IfOk, Result}
use Rattle.std.specs.List.{All}
use Rattle.protocol.specs.declared.happening.Happening.{Happening}
use Rattle.protocol.specs.declared.call.Step.{Step}
use Rattle.protocol.specs.Rules.{Rules}
use Rattle.protocol.specs.State.{State}
use Rattle.protocol.specs.Beats.{Edge}
use Rattle.protocol.specs.Deliveries.{EdgesAreTheDeliveries}
use Rattle.graphml.specs.declared.answer.Exported.{Exported}
use Rattle.graphml.specs.declared.answer.Refusal.{Refusal}
use Rattle.graphml.specs.Body.{body}
use Rattle.markup.specs.Closing.{Closes}
use Rattle.graphml.specs.Reading.{edges_read, places_read}
use Rattle.graphml.specs.Log.{ShowsTheLog, HasBothEnds, occurrences, all_read}
use Rattle.graphml.specs.Answer.{frame_size, in_frame, run_answer, run_bytes}
use Rattle.graphml.specs.Lent.{Lent}
use Rattle.markup.specs.Cut.{EndsAt}
use Rattle.graphml.specs.Elements.{spelling}

-- what a whole file of a run by those steps shows of it, whose log is `log`; bs are its bytes
pub record ShowsTheDeliveries (rules : Rules) (steps : List Step)
    (log : List Happening) (bs : List ℕ) : Type 0 where
  -- its edges are the deliveries that were granted, in their order, and there are no others
  pub edges : List Edge
  pub read : edges_read bs ≡ all_read edges
  pub deliveries : EdgesAreTheDeliveries rules steps log edges
  -- each record of the log is there once, and so are both ends of each edge
  pub each_place_once : (k : ℕ) → k < length log → occurrences k (places_read bs) ≡ 1
  pub edges_have_both_ends : All (HasBothEnds bs) (edges_read bs)

-- of the file of a run by those steps that came to s, in the output that was lent for it
pub record ShowsTheRun (rules : Rules) (steps : List Step) (s : State)
    (out : Lent ℕ) (answer : Result Exported Refusal) : Type 0 where
  -- an output of 275 bytes or more holds the defined file, and after it what it held;
  -- the answer tells of it
  pub answer_as_defined : answer ≡ run_answer s.log rules.plan.n (length out.before)
  pub bytes_as_defined : out.after ≡ run_bytes s.log rules.plan.n out.before
  -- a whole file is the whole defined one
  pub whole_as_defined :
      IfOk answer (λ x. x.whole ≡ true →
      take x.bytes out.after ≡ in_frame (body s.log rules.plan.n))
  -- a cut file has the first elements of all, and the next did not fit
  pub cut_at_the_first_that_does_not_fit :
      IfOk answer (λ x. x.whole ≡ false →
      EndsAt spelling (length out.before - frame_size) (body s.log rules.plan.n))
  -- read from its bytes alone, whole or cut, each element in it is closed, inner before outer
  pub closes : IfOk answer (λ x. Closes (take x.bytes out.after))
  -- and it shows the log: the first of its happenings and edges, or all of them
  pub shows_the_log :
      IfOk answer (λ x. ShowsTheLog rules.plan.n s.log x (take x.bytes out.after))
  -- and a whole one the deliveries
  pub shows_the_deliveries :
      IfOk answer (λ x. x.whole ≡ true →
      ShowsTheDeliveries rules steps s.log (take x.bytes out.after))
