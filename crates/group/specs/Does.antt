-- A group with its log: what it goes by, where it stands, and what a call does to it.
use Rattle.std.specs.Prelude.{◌≡◌, Result}
use Rattle.pace.specs.Meaning.{Meaning}
use Rattle.protocol.specs.Rules.{Rules}
use Rattle.pace.specs.declared.meaning.Pace.{Ghosts}
use Rattle.slots.specs.declared.SlotList.{SlotList}
use Rattle.slots.specs.Slots.{capacity, Extends}
use Rattle.protocol.specs.declared.happening.Happening.{Happening}
use Rattle.protocol.specs.declared.plan.Plan.{Plan}
use Rattle.protocol.specs.declared.call.Call.{Call}
use Rattle.protocol.specs.declared.refusal.Refusal.{Refusal}
use Rattle.protocol.specs.Answers.{number_told}
use Rattle.protocol.specs.Runs.{number, perform}
use Rattle.protocol.specs.Views.{state_of}
use Rattle.group.specs.declared.group.Group.{Group}
use Rattle.protocol.specs.State.{State}

-- what a run goes by: what the pace means, the plan, and the slots of the log
abbrev pub rules_by : Meaning → Plan → SlotList Happening → Rules
rules_by m plan l = record { meaning = m; plan = plan; room = capacity l }

abbrev pub rules : {A : Type 0} {d : Ghosts A} → Group A d → SlotList Happening → Rules
rules {d = d} g l = rules_by (d.means g.pace) g.plan l

-- what its calls change
abbrev pub state : {A : Type 0} {d : Ghosts A} → Group A d → SlotList Happening → State
state g l = state_of g.table l

-- the same pace and plan over the same slots, where no record goes and none past the last changes
pub record Stays {A : Type 0} {d : Ghosts A} (g g' : Group A d) (l l' : SlotList Happening)
    : Type 0 where
  pub pace : g'.pace ≡ g.pace
  pub plan : g'.plan ≡ g.plan
  pub extends : Extends l l'

-- a call with its answer, by the rules: its number is that of the first question answered no, or
-- 0; table and records are those of the rules, untouched where it was refused
pub record Does {A : Type 0} {d : Ghosts A} (call : Call) (g g' : Group A d)
    (l l' : SlotList Happening) (answer : Result (Unit {0}) Refusal) : Type 0 where
  pub stays : Stays g g' l l'
  pub number : number_told answer ≡ number (rules g l) call (state g l)
  pub after : state g' l' ≡ perform (rules g l) call (state g l)
