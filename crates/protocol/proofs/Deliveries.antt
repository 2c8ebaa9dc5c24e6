-- The edges of a run's log are its granted deliveries.
use Rattle.std.proofs.Common.{◌≡◌, ℕ, zero, suc, ◌≤◌, Bool, true, false, cond, eqb, List, [], ◌∷◌, ◌++◌, map, length, get_or, Some, None, Option, Ok, Err, Result, is_ok, IsOk, sym, refl, ap, ◌∙◌, subst, arith}
use Rattle.std.proofs.Math.Seq.{get_or-append_seam}
use Rattle.std.proofs.lemmas.List.{length-append, map-append}
use Rattle.std.proofs.lemmas.Bool.Decides.{nat_tests}
use Rattle.protocol.specs.declared.party.Party.{Party}
use Rattle.protocol.specs.declared.party.Beat.{Beat}
use Rattle.protocol.specs.declared.refusal.Refusal.{Refusal}
use Rattle.protocol.specs.declared.call.Call.{Call}
use Rattle.protocol.specs.declared.call.Call.TheVariants.{Tick, Deliver, Lose, Crash, Join, Leave}
use Rattle.protocol.specs.declared.call.Step.{Step}
use Rattle.protocol.specs.Answers.{number_told}
use Rattle.protocol.specs.Party.{on_leg}
use Rattle.protocol.specs.Rules.{Rules}
use Rattle.protocol.specs.State.{State, the, opening}
use Rattle.protocol.specs.calls.Deliver.{after_arrival}
use Rattle.protocol.specs.Runs.{number, effect, unless, perform, state_after}
use Rattle.std.specs.Prelude.{is_some}
use Rattle.protocol.specs.Rehearsals.{Rehearsed, call_of}
use Rattle.protocol.specs.Beats.{edge, edges, PutBy}
use Rattle.protocol.specs.Deliveries.{delivery_of, granted_deliveries, receiver, ArrivedBy, IsEdgeOf, EdgesAreTheDeliveries}
use Rattle.protocol.proofs.Asked.{asked_beat}
use Rattle.protocol.proofs.Making.{some_number}
use Rattle.protocol.proofs.Logs.{beat_edge, delivery, deliveries}
use Rattle.protocol.proofs.every.Logs.{deliveries_append, run_logged, held}
use Rattle.protocol.proofs.Records.{Grown, OwnedBy, arrived_push, arrived_still, sent_still}
use Rattle.protocol.proofs.every.Records.{grows}
use Rattle.protocol.proofs.Runs.{run_of}
use Rattle.protocol.proofs.Records.{grown_further}
use Rattle.protocol.proofs.calls.Deliver.{follows_grow}

-- a beat stands on one of three legs
leg_as : (x y z : Bool) (p : Party) (b : Beat) → cond x p.legs.out (cond y p.legs.reply (cond z p.legs.entry None)) ≡ Some b → (x ≡ true → ⊥) → (y ≡ true → ⊥) → z ≡ true
leg_as x y z p b e f g = grind arith

a_leg : (leg : ℕ) (p : Party) (b : Beat) → on_leg leg p ≡ Some b → (1 ≤ leg) × (leg ≤ 3)
a_leg leg p b e = let f = leg_as (eqb leg 1) (eqb leg 2) (eqb leg 3) p b e in grind (arith, nat_tests)

holds : (o : Option Beat) → is_some o ≡ true → (b : Beat) × (o ≡ Some b)
holds None e = absurd (grind arith)
holds (Some b) e = (b, refl)

module _ (rules : Rules) where
  -- the number of the edges that a call adds, by its answer

  one_edge : (k : ℕ) (o : Option Beat) → is_some o ≡ true → length (beat_edge o k) ≡ 1
  one_edge k None e = absurd (grind arith)
  one_edge k (Some b) e = refl

  granted_as : (call : Call) (s : State) (k : ℕ) → k ≡ 0 → number rules call s ≡ 0 → length (delivery call k s) ≡ length (delivery_of call true)
  granted_as Tick s k z e = refl
  granted_as (Deliver i leg) s zero z e = one_edge (length s.log) (on_leg leg (the i s.table)) (asked_beat rules.plan.n i (on_leg leg (the i s.table)) _ e).2
  granted_as (Deliver i leg) s (suc k) z e = absurd (omega arith)
  granted_as (Lose i leg) s k z e = refl
  granted_as (Crash i) s k z e = refl
  granted_as (Join i) s k z e = refl
  granted_as (Leave i) s k z e = refl

  refused_as : (call : Call) (s : State) (k n : ℕ) → k ≡ suc n → length (delivery call k s) ≡ length (delivery_of call false)
  refused_as Tick s k n e = refl
  refused_as (Deliver i leg) s zero n e = absurd (omega arith)
  refused_as (Deliver i leg) s (suc k) n e = refl
  refused_as (Lose i leg) s k n e = refl
  refused_as (Crash i) s k n e = refl
  refused_as (Join i) s k n e = refl
  refused_as (Leave i) s k n e = refl

  counts : (call : Call) (s : State) (a : Result (Unit {0}) Refusal) → number_told a ≡ number rules call s →
      length (delivery call (number rules call s) s) ≡ length (delivery_of call (is_ok a))
  counts call s (Ok u) e = granted_as call s (number rules call s) (sym e) (sym e)
  counts call s (Err r) e = let n = some_number r in refused_as call s (number rules call s) n.0 (sym e ∙ n.1)

  as_many : (xs : List Step) (s s' : State) → Rehearsed rules s xs s' → length (deliveries rules (map call_of xs) s) ≡ length (granted_deliveries xs)
  as_many [] s s' h = refl
  as_many (x ∷ xs) s s' h =
      let t = perform rules x.call s in
      let a = counts x.call s x.answer h.0 in
      let b = as_many xs t s' h.1 in
      omega (
        arith,
        a,
        b,
        length-append (delivery x.call (number rules x.call s) s) (deliveries rules (map call_of xs) t),
        length-append (delivery_of x.call (is_ok x.answer)) (granted_deliveries xs),
      )

  -- the steps before one of them, and those after it
  cut_before : (xs : List Step) (x : Step) (ys : List Step) (s s' : State) → Rehearsed rules s (xs ++ x ∷ ys) s' →
      let t = state_after rules (map call_of xs) s in
      Rehearsed rules s xs t × (number_told x.answer ≡ number rules x.call t) × Rehearsed rules (perform rules x.call t) ys s'
  cut_before [] x ys s s' h = (refl, h.0, h.1)
  cut_before (y ∷ xs) x ys s s' h = let r = cut_before xs x ys (perform rules y.call s) s' h.1 in ((h.0, r.0), r.1, r.2)

  -- one delivery

  arrives_as : (o : Option Beat) (i leg : ℕ) (b : Beat) (s : State) → o ≡ Some b → i ≤ rules.plan.n →
      ArrivedBy (after_arrival o i leg s).log s.table.clock (receiver leg i) (length s.log)
  arrives_as None i leg b s e h = absurd (grind arith)
  arrives_as (Some d) i leg b s e h =
      let t = s.table in
      arrived_still _ _ t.clock (receiver leg i) (length s.log) (follows_grow rules (λ _. ⊥) t.clock t.root leg d i (the i t) s.log h)
      (arrived_push s.log t.clock (receiver leg i) d.place)

  arrives_at : (i leg k : ℕ) (b : Beat) (s : State) → k ≡ 0 → on_leg leg (the i s.table) ≡ Some b → i ≤ rules.plan.n →
      ArrivedBy (unless k s (effect rules (Deliver i leg) s)).log s.table.clock (receiver leg i) (length s.log)
  arrives_at i leg zero b s z e h = arrives_as (on_leg leg (the i s.table)) i leg b s e h
  arrives_at i leg (suc k) b s z e h = absurd (omega arith)

  ok_told : (a : Result (Unit {0}) Refusal) → IsOk a → number_told a ≡ 0
  ok_told (Ok u) h = refl
  ok_told (Err r) h = absurd (grind arith)

  -- the edge that a granted delivery adds
  edge_as : (i leg k : ℕ) (b : Beat) (s : State) → k ≡ 0 → on_leg leg (the i s.table) ≡ Some b → delivery (Deliver i leg) k s ≡ edge b.place (length s.log) ∷ []
  edge_as i leg zero b s z e = ap (λ o. beat_edge o (length s.log)) e
  edge_as i leg (suc k) b s z e = absurd (omega arith)

  module _ (before after : List Step) (x : Step) (i leg : ℕ) (s : State) (h : Rehearsed rules (opening rules) (before ++ x ∷ after) s)
      (is : x.call ≡ Deliver i leg) (ok : IsOk x.answer) where
    abbrev calls : List Call
    calls = map call_of before

    abbrev now : State
    now = state_after rules calls (opening rules)

    abbrev then : State
    then = perform rules (Deliver i leg) now

    cut : Rehearsed rules (opening rules) before now × (number_told x.answer ≡ number rules x.call now) × Rehearsed rules (perform rules x.call now) after s
    cut = cut_before before x after (opening rules) s h

    granted : number rules (Deliver i leg) now ≡ 0
    granted = ap (λ call. number rules call now) (sym is) ∙ sym cut.1 ∙ ok_told x.answer ok

    asked : (1 ≤ i) × (i ≤ rules.plan.n) × (is_some (on_leg leg (the i now.table)) ≡ true)
    asked = asked_beat rules.plan.n i (on_leg leg (the i now.table)) _ granted

    stood : (b : Beat) × (on_leg leg (the i now.table) ≡ Some b)
    stood = holds _ asked.2

    -- the log of the run has grown out of the one after the delivery
    later : Grown (OwnedBy rules.plan.n) then.log s.log
    later =
        subst (λ (t : State). Grown (OwnedBy rules.plan.n) then.log t.log) (sym (run_of rules then after s (subst (λ call. Rehearsed rules (perform rules call now) after s) is cut.2)).0)
        (grows rules then (map call_of after))

    is_edge : IsEdgeOf rules calls i leg s.log (edge stood.0.place (length now.log))
    is_edge =
        let b = stood.0 in
        let arrival = arrives_at i leg (number rules (Deliver i leg) now) b now granted stood.1 asked.1 in
        let put : PutBy rules (opening rules) calls i leg b = (run_logged rules calls).put i leg b asked.0 asked.1 stood.1 in
        record {
          of_a_party = (asked.0, asked.1);
          of_a_leg = a_leg leg (the i now.table) b stood.1;
          arrival = arrived_still then.log s.log _ _ _ later arrival;
          not_yet = omega arith;
          written = arrival.below;
          sending = sent_still now.log s.log _ _ (grown_further _ _ _ _ (grows rules now (Deliver i leg ∷ [])) later) (held rules calls i leg b asked.0 asked.1 stood.1);
          beat = b;
          stood = stood.1;
          sent_there = refl;
          put = put;
        }

    at_its_place : get_or (edges 0 s.log) (length (granted_deliveries before)) (edge 0 0) ≡ edge stood.0.place (length now.log)
    at_its_place =
        let e : edges 0 s.log ≡ deliveries rules (map call_of (before ++ x ∷ after)) (opening rules) =
        ap (λ (t : State). edges 0 t.log) (run_of rules (opening rules) (before ++ x ∷ after) s h).0 ∙ (run_logged rules (map call_of (before ++ x ∷ after))).edges in
        let d : delivery x.call (number rules x.call now) now ≡ edge stood.0.place (length now.log) ∷ [] =
        ap (λ call. delivery call (number rules call now) now) is ∙ edge_as i leg _ stood.0 now granted stood.1 in
        let es = deliveries rules (map call_of before) (opening rules) in
        let rest = deliveries rules (map call_of after) (perform rules x.call now) in
        ap (λ k. get_or (edges 0 s.log) k (edge 0 0)) (sym (as_many before (opening rules) now cut.0))
        ∙ ap (λ fs. get_or fs (length es) (edge 0 0)) (e ∙ ap (λ calls. deliveries rules calls (opening rules)) (map-append call_of before (x ∷ after))
        ∙ deliveries_append rules (map call_of before) (x.call ∷ map call_of after) (opening rules) ∙ ap (λ fs. es ++ (fs ++ rest)) d)
        ∙ get_or-append_seam es (edge stood.0.place (length now.log)) rest (edge 0 0)

    pub shows_delivery : IsEdgeOf rules calls i leg s.log (get_or (edges 0 s.log) (length (granted_deliveries before)) (edge 0 0))
    shows_delivery = subst (IsEdgeOf rules calls i leg s.log) (sym at_its_place) is_edge

  pub are_the_deliveries : (steps : List Step) (s : State) → Rehearsed rules (opening rules) steps s → EdgesAreTheDeliveries rules steps s.log (edges 0 s.log)
  are_the_deliveries steps s h = record {
    as_many =
        ap (λ (t : State). length (edges 0 t.log)) (run_of rules (opening rules) steps s h).0
        ∙ ap length (run_logged rules (map call_of steps)).edges ∙ as_many steps (opening rules) s h;
    each = λ before after x i leg among is ok.
        shows_delivery before after x i leg s (subst (λ xs. Rehearsed rules (opening rules) xs s) among h) is ok;
  }
