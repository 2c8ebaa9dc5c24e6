-- Orders played over a group: the calls that each asks for, and what comes of making them up to the
-- first refusal.
use Rattle.std.specs.Prelude.{◌≡◌, ℕ, zero, suc, ◌+◌, ◌-◌, List, [], ◌∷◌, ◌++◌, replicate, Some, None, Ok, Err, Option, Result}
use Rattle.pace.specs.declared.meaning.Pace.{Ghosts}
use Rattle.slots.specs.declared.SlotList.{SlotList}
use Rattle.protocol.specs.declared.happening.Happening.{Happening}
use Rattle.protocol.specs.declared.call.Call.{Call}
use Rattle.protocol.specs.declared.call.Call.TheVariants.{Tick, Deliver as ToDeliver, Lose as ToLose, Crash as ToCrash, Join as ToJoin, Leave as ToLeave}
use Rattle.protocol.specs.declared.call.Step.{Step}
use Rattle.protocol.specs.Answers.{refusal_number}
use Rattle.protocol.specs.State.{State, opening}
use Rattle.protocol.specs.Making.{Making, making}
use Rattle.protocol.specs.Rehearsals.{Rehearsed}
use Rattle.protocol.specs.Promise.{KeepsTheRules}
use Rattle.group.specs.declared.group.Group.{Group}
use Rattle.group.specs.Does.{rules, state, Stays}
use Rattle.runs.specs.Runs.{RunOf}
use Rattle.orders.specs.declared.order.Order.{Order}
use Rattle.orders.specs.declared.order.OrderKind.{OrderKind}
use Rattle.orders.specs.declared.order.OrderKind.TheVariants.{Deliver, Lose, Crash, Join, Leave, Wait}
use Rattle.player.specs.declared.play.PlayFault.{PlayFault}
use Rattle.player.specs.declared.play.PlayFault.TheVariants.{Refused}
use Rattle.player.specs.declared.play.PlayStop.{PlayStop}
use Rattle.protocol.specs.Rules.{Rules}

-- the call of each kind of order, for that party and leg; a wait has none
abbrev pub call_as : OrderKind → ℕ → ℕ → Option Call
call_as Deliver party leg = Some (ToDeliver party leg)
call_as Lose party leg = Some (ToLose party leg)
call_as Crash party leg = Some (ToCrash party)
call_as Join party leg = Some (ToJoin party)
call_as Leave party leg = Some (ToLeave party)
call_as Wait party leg = None

abbrev pub own_call : Order → Option Call
own_call o = call_as o.kind o.party o.leg

abbrev pub at_most_one : Option Call → List Call
at_most_one None = []
at_most_one (Some call) = call ∷ []

-- the calls that an order asks for at a clock: a tick for each that is missing to the order's, and
-- then its own
abbrev pub calls_for : ℕ → Order → List Call
calls_for clock o = replicate (o.tick - clock) Tick ++ at_most_one (own_call o)

-- where the playing ended: the place of the order, and the number of the refusal; 0 and 0 where
-- each order was played
pub record Stop : Type 0 where
  pub order : ℕ
  pub number : ℕ

-- what came of playing orders: the group and its log, the calls that were made, and where it ended
pub record Playing : Type 0 where
  pub state : State
  pub calls : List Call
  pub stop : Stop

-- an order at place k of which no call was refused is followed by the others, any other is the last
abbrev pub goes_on_from : ℕ → ℕ → Making → Playing → Playing
goes_on_from zero k x rest =
    record { state = rest.state; calls = x.calls ++ rest.calls; stop = rest.stop }
goes_on_from (suc n) k x rest =
    record { state = x.state; calls = x.calls; stop = record { order = k; number = suc n } }

-- orders that stand from place k on, played one after another, up to the first refusal
abbrev pub playing : Rules → ℕ → List Order → State → Playing
playing rules k [] s = record { state = s; calls = []; stop = record { order = 0; number = 0 } }
playing rules k (o ∷ os) s =
    let x = making rules (calls_for s.table.clock o) s in
    goes_on_from x.number k x (playing rules (k + 1) os x.state)

-- the number of a fault is that of the group's own refusal inside it
abbrev pub fault_number : PlayFault → ℕ
fault_number (Refused e) = refusal_number e

-- the number that an answer tells, 0 for none
abbrev pub fault_told : Result (Unit {0}) PlayFault → ℕ
fault_told (Ok u) = 0
fault_told (Err f) = fault_number f

abbrev pub stop_told : Result (Unit {0}) PlayStop → Stop
stop_told (Ok u) = record { order = 0; number = 0 }
stop_told (Err x) = record { order = x.order; number = fault_number x.fault }

-- the orders were played, up to the first refusal, at which the answer stops: a run of their calls
-- by the rules. Where steps from the opening on had brought the group to where it stood, both
-- together keep the promise of a run
pub record Plays {A : Type 0} {d : Ghosts A} (orders : List Order) (g g' : Group A d)
    (l l' : SlotList Happening) (answer : Result (Unit {0}) PlayStop) : Type 0 where
  pub stays : Stays g g' l l'
  pub stop : stop_told answer ≡ (playing (rules g l) 0 orders (state g l)).stop
  pub after : state g' l' ≡ (playing (rules g l) 0 orders (state g l)).state
  pub run : RunOf (rules g l) (playing (rules g l) 0 orders (state g l)).calls
      (state g l) (state g' l')
  pub promise : (before : List Step) →
      Rehearsed (rules g l) (opening (rules g l)) before (state g l) →
      KeepsTheRules (rules g l) (before ++ run.steps) (state g' l')
