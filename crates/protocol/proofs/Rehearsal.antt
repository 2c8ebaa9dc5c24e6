-- A run step by step, and its promise.
use Rattle.std.proofs.Common.{◌∙◌, ◌≡◌, ℕ, zero, suc, List, [], ◌∷◌, ◌++◌, map, get_or, set, sym, refl, ap, subst}
use Rattle.protocol.specs.declared.call.Step.{Step}
use Rattle.pace.specs.Meaning.{Lawful}
use Rattle.protocol.specs.Rules.{Rules}
use Rattle.protocol.specs.State.{State, opening}
use Rattle.protocol.specs.Answers.{number_told}
use Rattle.protocol.specs.Runs.{number, perform, run_state, unharmed}
use Rattle.protocol.specs.Laws.{RootFollows, PartiesFollow, StopsForCause, NobodyStopped}
use Rattle.protocol.specs.Beats.{BeatsAreLogged, PutWithTheirSendings, SendingsSettleOnce}
use Rattle.protocol.specs.Order.{LogInOrder}
use Rattle.protocol.specs.Sendings.{NoBeatVanishes}
use Rattle.protocol.specs.Told.{TellsTheGroup}
use Rattle.protocol.specs.Trips.{BeatsComeInTime}
use Rattle.protocol.specs.Rehearsals.{Rehearsed, call_of}
use Rattle.protocol.specs.Promise.{KeepsTheRules}
use Rattle.protocol.proofs.Runs.{run_of}
use Rattle.protocol.proofs.Ticks.{counts_ticks}
use Rattle.protocol.proofs.Shown.{logs_beats, settle_once, in_order}
use Rattle.protocol.proofs.Deliveries.{are_the_deliveries}
use Rattle.protocol.proofs.every.Sendings.{no_beat_vanishes}
use Rattle.protocol.proofs.every.Strikes.{strikes_for_good}
use Rattle.protocol.proofs.every.Told.{tells_the_group}
use Rattle.protocol.proofs.Trips.{in_time}
use Rattle.protocol.proofs.Ends.{root_follows, parties_follow, stops_for_cause, nobody_stopped}
use Rattle.protocol.proofs.every.Whole.{run_whole, free_legs}
use Rattle.protocol.proofs.every.Logs.{run_logged}

pub map_set : {A B : Type 0} (f : A → B) (xs : List A) (i : ℕ) (y d : A) → f y ≡ f (get_or xs i d) → map f (set xs i y) ≡ map f xs
map_set f [] i y d e = refl
map_set f (x ∷ xs) zero y d e = ap (λ z. z ∷ map f xs) e
map_set f (x ∷ xs) (suc i) y d e = ap (λ zs. f x ∷ zs) (map_set f xs i y d e)

module _ (rules : Rules) where
  -- some steps and then others
  pub then : (s : State) (xs : List Step) (s' : State) (ys : List Step) (s'' : State) → Rehearsed rules s xs s' → Rehearsed rules s' ys s'' → Rehearsed rules s (xs ++ ys) s''
  then s [] s' ys s'' h k = subst (λ t. Rehearsed rules t ys s'') h k
  then s (x ∷ xs) s' ys s'' h k = (h.0, then (perform rules x.call s) xs s' ys s'' h.1 k)

  -- one step more
  pub more : (s : State) (xs : List Step) (s' : State) (x : Step) (s'' : State) → Rehearsed rules s xs s' → number_told x.answer ≡ number rules x.call s' →
      s'' ≡ perform rules x.call s' → Rehearsed rules s (xs ++ (x ∷ [])) s''
  more s xs s' x s'' h a e = then s xs s' (x ∷ []) s'' h (a, e)

  -- the promise of a run, over its steps
  pub keeps : Lawful rules.meaning → (xs : List Step) (s' : State) → Rehearsed rules (opening rules) xs s' → KeepsTheRules rules xs s'
  keeps sound xs s' h =
      let calls = map call_of xs in
      let r = run_of rules (opening rules) xs s' h in
      let back = sym r.0 in
      let s = run_state rules calls in
      let w = run_whole rules sound calls in
      record {
        by_the_rules = h;
        clock_counts_the_granted_ticks = counts_ticks rules xs s' h;
        root_ends_within_D_of_a_party_on_the_roll = subst (RootFollows rules) back (root_follows rules sound _ s w);
        parties_on_the_roll_end_within_D_and_a_trip_of_the_root = subst (PartiesFollow rules) back (parties_follow rules sound _ s w);
        party_that_was_in_stops_no_earlier_than_the_root = subst (StopsForCause rules) back (stops_for_cause rules sound _ s w);
        nobody_stops_unharmed = λ e. subst (NobodyStopped rules) back (nobody_stopped rules sound _ s w (sym (ap (unharmed calls) r.1) ∙ e));
        beats_go_back_to_their_sendings = subst (BeatsAreLogged rules) back (logs_beats rules calls);
        beats_are_put_with_their_sendings = subst (PutWithTheirSendings rules calls) back (run_logged rules calls).put;
        no_sending_settles_twice = subst (SendingsSettleOnce rules) back (settle_once rules calls);
        no_beat_vanishes = subst (NoBeatVanishes rules) back (no_beat_vanishes rules sound calls);
        beats_come_in_time = subst (BeatsComeInTime rules) back (in_time rules sound calls);
        sends_fall_on_free_legs = λ before after call among. free_legs rules sound before call;
        each_delivery_is_of_the_beat_sent_on_its_leg = λ before after call among i leg b e lo hi stood. (run_logged rules before).put i leg b lo hi stood;
        struck_is_for_good = strikes_for_good rules sound calls;
        log_in_order = subst (LogInOrder rules) back (in_order rules calls);
        log_tells_the_group = subst (TellsTheGroup rules) back (tells_the_group rules calls);
        edges_are_the_granted_deliveries = are_the_deliveries rules xs s' h;
      }
