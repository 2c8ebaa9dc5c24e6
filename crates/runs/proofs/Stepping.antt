-- Steps of a run, one more.
use Rattle.std.proofs.Common.{◌≡◌, ℕ, ◌+◌, ◌<◌, List, length, map, get_or, set, take, Result, refl, ◌∙◌, subst}
use Rattle.std.proofs.lemmas.List.{take_more_set}
use Rattle.pace.specs.declared.meaning.Pace.{Ghosts}
use Rattle.slots.specs.declared.SlotList.{SlotList}
use Rattle.protocol.specs.declared.happening.Happening.{Happening}
use Rattle.protocol.specs.declared.call.Step.{Step}
use Rattle.protocol.specs.declared.refusal.Refusal.{Refusal}
use Rattle.protocol.specs.Answers.{number_told}
use Rattle.protocol.specs.Runs.{number, perform}
use Rattle.protocol.specs.Rehearsals.{call_of}
use Rattle.protocol.proofs.Rehearsal.{map_set, more}
use Rattle.group.specs.declared.group.Group.{Group}
use Rattle.group.specs.Does.{rules, state, Stays, Does}
use Rattle.group.proofs.Staying.{stays_on, same_rules}
use Rattle.protocol.specs.Rehearsals.{Rehearsed}
use Rattle.protocol.specs.Rules.{Rules}

-- the first n calls were made
pub record DoesFirst {A : Type 0} {d : Ghosts A} (n : ℕ) (g g' : Group A d) (l l' : SlotList Happening) (steps steps' : List Step) : Type 0 where
  pub stays : Stays g g' l l'
  pub calls : map call_of steps' ≡ map call_of steps
  pub leads : Rehearsed (rules g l) (state g l) (take n steps') (state g' l')

-- the next call is made, and its answer put beside it
pub put_next : {A : Type 0} {D : Ghosts A} (n : ℕ) (x : Step) (a b c : Group A D) (k l m : SlotList Happening) (xs ys : List Step) (answer : Result (Unit {0}) Refusal) →
    n < length ys → DoesFirst n a b k l xs ys → Does (get_or ys n x).call b c l m answer →
    DoesFirst (n + 1) a c k m xs (set ys n (record { call = (get_or ys n x).call; answer = answer }))
put_next n x a b c k l m xs ys answer within h d =
    let y : Step = record { call = (get_or ys n x).call; answer = answer } in
    let same = same_rules a b k l h.stays in
    let R = rules a k in
    record {
      stays = stays_on a b c k l m h.stays d.stays;
      calls = map_set call_of ys n y x refl ∙ h.calls;
      leads = rw (take_more_set ys n y within)
          (more R (state a k) (take n ys) (state b l) y (state c m) h.leads
          (subst (λ (R : Rules). number_told answer ≡ number R y.call (state b l)) same d.number)
          (subst (λ (R : Rules). state c m ≡ perform R y.call (state b l)) same d.after));
    }
