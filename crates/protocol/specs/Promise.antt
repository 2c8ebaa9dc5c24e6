-- The promise of a run: what holds of a group and its log after any calls, refused ones too,
-- from the opening on.
use Rattle.std.specs.Prelude.{◌≡◌, ℕ, ◌≤◌, true, List, ◌∷◌, ◌++◌, map, Some}
use Rattle.protocol.specs.declared.party.Beat.{Beat}
use Rattle.protocol.specs.declared.call.Call.{Call}
use Rattle.protocol.specs.declared.call.Call.TheVariants.{Deliver}
use Rattle.protocol.specs.declared.call.Step.{Step}
use Rattle.protocol.specs.Rules.{Rules}
use Rattle.protocol.specs.Party.{on_leg}
use Rattle.protocol.specs.State.{State, the, opening}
use Rattle.protocol.specs.Runs.{number, run_state, unharmed}
use Rattle.protocol.specs.Laws.{RootFollows, PartiesFollow, StopsForCause, NobodyStopped}
use Rattle.protocol.specs.Beats.{BeatsAreLogged, PutWithTheirSendings, SendingsSettleOnce, FreeFor, PutBy, edges}
use Rattle.protocol.specs.Order.{LogInOrder}
use Rattle.protocol.specs.Rehearsals.{Rehearsed, call_of, answer_of, granted_ticks}
use Rattle.protocol.specs.Deliveries.{EdgesAreTheDeliveries}
use Rattle.protocol.specs.Sendings.{NoBeatVanishes}
use Rattle.protocol.specs.Strikes.{StruckForGood}
use Rattle.protocol.specs.Told.{TellsTheGroup}
use Rattle.protocol.specs.Trips.{BeatsComeInTime}

-- what is said of each call among the calls, and of those before it
abbrev pub AtEachCall : List Call → (List Call → Call → Type 0) → Type 0
AtEachCall calls P =
    (before after : List Call) (call : Call) → calls ≡ before ++ (call ∷ after) → P before call

-- the legs on which the call puts a beat are free, where it is not refused
abbrev pub SendsOnFreeLegs : Rules → List Call → Call → Type 0
SendsOnFreeLegs rules before call =
    let s = run_state rules before in number rules call s ≡ 0 → FreeFor rules call s

-- a call asks, granted or not, to deliver from a leg: the beat that stands on it was put on that
-- very leg by the call that wrote the record of its sending
abbrev pub DeliversWhatWasSent : Rules → List Call → Call → Type 0
DeliversWhatWasSent rules before call =
    (i leg : ℕ) (b : Beat) → call ≡ Deliver i leg → 1 ≤ i → i ≤ rules.plan.n →
    on_leg leg (the i (run_state rules before).table) ≡ Some b →
    PutBy rules (opening rules) before i leg b

-- of a group opened new from a plan and a pace of that meaning, over so many slots, after the steps
pub record KeepsTheRules (rules : Rules) (steps : List Step) (s : State) : Type 0 where
  -- each call did and answered what the rules say
  pub by_the_rules : Rehearsed rules (opening rules) steps s
  -- the clock tells how many ticks were granted
  pub clock_counts_the_granted_ticks : s.table.clock ≡ granted_ticks steps
  -- once a party on the roll has been ended for longer than D, the root has ended
  pub root_ends_within_D_of_a_party_on_the_roll : RootFollows rules s
  -- once the root has been ended for longer than D and a trip, each party on the roll has ended
  pub parties_on_the_roll_end_within_D_and_a_trip_of_the_root : PartiesFollow rules s
  -- a party that was in stops only with the root or after it
  pub party_that_was_in_stops_no_earlier_than_the_root : StopsForCause rules s
  -- nobody stops where no loss and no crash was granted
  pub nobody_stops_unharmed :
      unharmed (map call_of steps) (map answer_of steps) ≡ true → NobodyStopped rules s
  -- each beat on a leg, each arrival and each loss goes back to its sending
  pub beats_go_back_to_their_sendings : BeatsAreLogged rules s
  -- each beat on a leg was put there by the call that wrote the record of its sending
  pub beats_are_put_with_their_sendings : PutWithTheirSendings rules (map call_of steps) s
  -- no sending is the source of two: each arrives or is lost once at most
  pub no_sending_settles_twice : SendingsSettleOnce rules s
  -- no beat vanishes: each sending has arrived, is lost or is under way
  pub no_beat_vanishes : NoBeatVanishes rules s
  -- a beat is under way for at most a trip
  pub beats_come_in_time : BeatsComeInTime rules s
  -- no call puts a beat on a leg that holds one
  pub sends_fall_on_free_legs : AtEachCall (map call_of steps) (SendsOnFreeLegs rules)
  -- a delivery takes the very beat that was sent on its leg
  pub each_delivery_is_of_the_beat_sent_on_its_leg :
      AtEachCall (map call_of steps) (DeliversWhatWasSent rules)
  -- from its striking on, a party is struck after each call, and no beat goes out to it
  pub struck_is_for_good : StruckForGood rules (map call_of steps)
  -- the ticks of the log never fall, none is later than the clock, each record is of the root or a
  -- party of the plan, and the group never takes its log for another's
  pub log_in_order : LogInOrder rules s
  -- the log tells where each party stands, when it last heard and whether it is on the roll;
  -- and how the root is
  pub log_tells_the_group : TellsTheGroup rules s
  -- the edges of the log are the granted deliveries, in their order: each from the sending that put
  -- the beat on its leg to its arrival
  pub edges_are_the_granted_deliveries :
      EdgesAreTheDeliveries rules steps s.log (edges 0 s.log)
