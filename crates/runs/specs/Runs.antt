-- What every run is, and what several calls do to it.
use Rattle.std.specs.Prelude.{◌≡◌, ℕ, List, length, map}
use Rattle.pace.specs.Meaning.{Meaning}
use Rattle.pace.specs.declared.meaning.Pace.{Ghosts}
use Rattle.slots.specs.declared.SlotList.{SlotList}
use Rattle.protocol.specs.declared.happening.Happening.{Happening}
use Rattle.protocol.specs.declared.plan.Plan.{Plan}
use Rattle.protocol.specs.declared.call.Call.{Call}
use Rattle.protocol.specs.declared.call.Step.{Step}
use Rattle.protocol.specs.Rules.{Rules}
use Rattle.protocol.specs.State.{State}
use Rattle.protocol.specs.Making.{making}
use Rattle.protocol.specs.Rehearsals.{Rehearsed, call_of}
use Rattle.protocol.specs.Promise.{KeepsTheRules}
use Rattle.group.specs.declared.group.Group.{Group}
use Rattle.group.specs.Does.{rules, state, Stays}

-- what a run goes by whose log has as many slots as were lent for it
abbrev pub rules_over : Meaning → Plan → List Happening → Rules
rules_over m plan slots = record { meaning = m; plan = plan; room = length slots }

-- there are steps that lead there from the opening, and they keep the promise of a run
abbrev pub IsRun : Rules → State → Type 0
IsRun R s = (steps : List Step) × KeepsTheRules R steps s

-- every call of the steps was made in turn, and its answer put beside it
pub record DoesAll {A : Type 0} {d : Ghosts A} (g g' : Group A d) (l l' : SlotList Happening)
    (steps steps' : List Step) : Type 0 where
  pub stays : Stays g g' l l'
  pub calls : map call_of steps' ≡ map call_of steps
  pub leads : Rehearsed (rules g l) (state g l) steps' (state g' l')

-- the calls were made in turn, up to the first that was refused, whose number is told; 0 for none
pub record Makes {A : Type 0} {d : Ghosts A} (calls : List Call) (g g' : Group A d)
    (l l' : SlotList Happening) (told : ℕ) : Type 0 where
  pub stays : Stays g g' l l'
  pub number : told ≡ (making (rules g l) calls (state g l)).number
  pub after : state g' l' ≡ (making (rules g l) calls (state g l)).state

-- a run of those calls by the rules: there are steps, each a call with its answer, that lead
-- from s to s'
pub record RunOf (rules : Rules) (calls : List Call) (s s' : State) : Type 0 where
  pub steps : List Step
  pub by_the_rules : Rehearsed rules s steps s'
  pub made : map call_of steps ≡ calls
