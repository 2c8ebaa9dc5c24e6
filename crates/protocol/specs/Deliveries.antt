-- The deliveries of a run, told from its steps, and what its log shows of each.
use Rattle.std.specs.Prelude.{◌≡◌, ℕ, ◌<◌, ◌≤◌, Bool, cond, List, [], ◌∷◌, ◌++◌, map, length, get_or, Some, ◌==◌, is_ok, IsOk}
use Rattle.protocol.specs.declared.party.Beat.{Beat}
use Rattle.protocol.specs.declared.happening.HappeningKind.TheVariants.{Arrived}
use Rattle.protocol.specs.declared.happening.Happening.{Happening}
use Rattle.protocol.specs.declared.call.Call.{Call}
use Rattle.protocol.specs.declared.call.Call.TheVariants.{Tick, Deliver, Lose, Crash, Join, Leave}
use Rattle.protocol.specs.declared.call.Step.{Step}
use Rattle.protocol.specs.Party.{on_leg}
use Rattle.protocol.specs.Rules.{Rules}
use Rattle.protocol.specs.State.{the, opening}
use Rattle.protocol.specs.calls.Lose.{sender}
use Rattle.protocol.specs.Runs.{perform, run_state}
use Rattle.protocol.specs.Rehearsals.{call_of}
use Rattle.protocol.specs.Beats.{happening_at, SentBy, Edge, edge, PutBy}

-- a delivery: the party and its leg whose beat arrives
pub record Delivery : Type 0 where
  pub party : ℕ
  pub leg : ℕ

-- the delivery that a call is, if it is one and was granted
abbrev pub delivery_of : Call → Bool → List Delivery
delivery_of Tick granted = []
delivery_of (Deliver i leg) granted = cond granted (record { party = i; leg = leg } ∷ []) []
delivery_of (Lose i leg) granted = []
delivery_of (Crash i) granted = []
delivery_of (Join i) granted = []
delivery_of (Leave i) granted = []

-- the deliveries among the steps that were granted, in their order
abbrev pub granted_deliveries : List Step → List Delivery
granted_deliveries [] = []
granted_deliveries (x ∷ xs) = delivery_of x.call (is_ok x.answer) ++ granted_deliveries xs

-- who receives on a leg: the party on leg 1, the root on the others
abbrev pub receiver : ℕ → ℕ → ℕ
receiver leg i = cond (leg == 1) i 0

-- at place k of the log stands an arrival by o at clock c
pub record ArrivedBy (log : List Happening) (c o k : ℕ) : Type 0 where
  pub below : k < length log
  pub kind : (happening_at log k).kind ≡ Arrived
  pub tick : (happening_at log k).tick ≡ c
  pub owner : (happening_at log k).owner ≡ o

-- e is the edge, in that log, of the delivery from a leg of party i that was made after those calls
pub record IsEdgeOf (rules : Rules) (calls : List Call) (i leg : ℕ)
    (log : List Happening) (e : Edge) : Type 0 where
  pub of_a_party : (1 ≤ i) × (i ≤ rules.plan.n)
  pub of_a_leg : (1 ≤ leg) × (leg ≤ 3)
  -- its target is an arrival at the clock of that call, by who receives on the leg
  pub arrival : ArrivedBy log (run_state rules calls).table.clock (receiver leg i) e.target
  -- which that very call wrote
  pub not_yet : length (run_state rules calls).log ≤ e.target
  pub written :
      e.target < length (perform rules (Deliver i leg) (run_state rules calls)).log
  -- its source is a sending by who sends on the leg
  pub sending : SentBy log (sender leg i) e.source
  -- of the beat that stood on the leg, put there by the call that wrote that sending
  pub beat : Beat
  pub stood : on_leg leg (the i (run_state rules calls).table) ≡ Some beat
  pub sent_there : beat.place ≡ e.source
  pub put : PutBy rules (opening rules) calls i leg beat

-- the edges es are the granted deliveries of those steps, in their order
pub record EdgesAreTheDeliveries (rules : Rules) (steps : List Step)
    (log : List Happening) (es : List Edge) : Type 0 where
  pub as_many : length es ≡ length (granted_deliveries steps)
  -- the edge of each stands behind as many as were granted before it
  pub each :
      (before after : List Step) (x : Step) (i leg : ℕ) →
      steps ≡ before ++ (x ∷ after) → x.call ≡ Deliver i leg → IsOk x.answer →
      IsEdgeOf rules (map call_of before) i leg log
      (get_or es (length (granted_deliveries before)) (edge 0 0))
