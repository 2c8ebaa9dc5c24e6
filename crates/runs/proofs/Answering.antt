-- Every number of a call is an answer's, so calls made up to the first refusal are steps by the rules.
use Rattle.std.proofs.Common.{◌≡◌, ℕ, zero, suc, ◌+◌, ◌*◌, Bool, true, false, not, ltb, leb, List, [], ◌∷◌, ◌++◌, map, length, Ok, Err, Result, sym, refl, ap, ◌∙◌}
use Rattle.std.proofs.lemmas.List.{map-append}
use Rattle.protocol.specs.declared.call.Call.{Call}
use Rattle.protocol.specs.declared.call.Call.TheVariants.{Tick, Deliver, Lose, Crash, Join, Leave}
use Rattle.protocol.specs.declared.refusal.Refusal.{Refusal}
use Rattle.protocol.specs.declared.refusal.Refusal.TheVariants.{NoSuchParty, KindForbids, WrongState, NoBeat, ClockAtEnd, BeatDue, NoSlot, LogDiffers}
use Rattle.protocol.specs.Answers.{refusal_number, number_told}
use Rattle.protocol.specs.calls.Tick.{due, any}
use Rattle.protocol.specs.Party.{on_leg}
use Rattle.protocol.specs.Rules.{Rules}
use Rattle.protocol.specs.State.{State, the}
use Rattle.protocol.specs.Questions.{asks, is_own_log, log_asks, is_party}
use Rattle.protocol.specs.calls.Join.{may_join, is_outside}
use Rattle.protocol.specs.calls.Leave.{may_leave, is_in}
use Rattle.protocol.specs.calls.Crash.{can_crash}
use Rattle.protocol.specs.Runs.{number, perform, effect, unless}
use Rattle.std.specs.Prelude.{is_some}
use Rattle.protocol.specs.Making.{Making, goes_on, making}
use Rattle.protocol.specs.Rehearsals.{call_of}
use Rattle.protocol.proofs.Rehearsal.{then}
use Rattle.runs.specs.Runs.{RunOf}

-- an answer that tells a number
abbrev Tells : ℕ → Type 0
Tells n = (r : Result (Unit {0}) Refusal) × (number_told r ≡ n)

-- the number of a question is that of a refusal, and the later questions' is too
asked : (b : Bool) (e : Refusal) (rest : ℕ) → Tells rest → Tells (asks b (refusal_number e) rest)
asked true e rest h = h
asked false e rest h = (Err e, refl)

module _ (rules : Rules) where
  log_told : (slots : ℕ) (s : State) → Tells (log_asks slots rules.room s)
  log_told slots s = asked (leb (length s.log + slots) rules.room) NoSlot _ (asked (is_own_log s) LogDiffers 0 (Ok tt, refl))

  -- every number of a call is told by an answer
  answer_for : (call : Call) (s : State) → Tells (number rules call s)
  answer_for Tick s =
      asked (ltb s.table.clock 4000000000) ClockAtEnd _
      (asked (not (any (due s.table.clock) rules.plan.n s.table.parties)) BeatDue _ (log_told (2 * rules.plan.n) s))
  answer_for (Deliver i leg) s = asked (is_party rules.plan.n i) NoSuchParty _ (asked (is_some (on_leg leg (the i s.table))) NoBeat _ (log_told 2 s))
  answer_for (Lose i leg) s = asked (is_party rules.plan.n i) NoSuchParty _ (asked (is_some (on_leg leg (the i s.table))) NoBeat _ (log_told 2 s))
  answer_for (Crash i) s = asked (leb i rules.plan.n) NoSuchParty _ (asked (can_crash i s) WrongState _ (log_told 2 s))
  answer_for (Join i) s =
      asked (is_party rules.plan.n i) NoSuchParty _
      (asked (may_join rules.plan.kind) KindForbids _ (asked (is_outside (the i s.table).own.standing) WrongState _ (log_told 2 s)))
  answer_for (Leave i) s =
      asked (is_party rules.plan.n i) NoSuchParty _
      (asked (may_leave rules.plan.kind) KindForbids _ (asked (is_in (the i s.table).own.standing) WrongState _ (log_told 2 s)))

  run_on : (k : ℕ) (call : Call) (s : State) (rest : Making) → number rules call s ≡ k → RunOf rules rest.calls (perform rules call s) rest.state →
      RunOf rules (goes_on k call s rest).calls s (goes_on k call s rest).state
  run_on zero call s rest e h =
      let a = answer_for call s in
      record {
        steps = record { call = call; answer = a.0 } ∷ h.steps;
        by_the_rules = (a.1, h.by_the_rules);
        made = ap (λ cs. call ∷ cs) h.made;
      }
  run_on (suc k) call s rest e h =
      let a = answer_for call s in
      record {
        steps = record { call = call; answer = a.0 } ∷ [];
        by_the_rules = (a.1, sym (ap (λ n. unless n s (effect rules call s)) e));
        made = refl;
      }

  pub makes_run : (calls : List Call) (s : State) → RunOf rules (making rules calls s).calls s (making rules calls s).state
  makes_run [] s = record { steps = []; by_the_rules = refl; made = refl }
  makes_run (call ∷ calls) s =
      let s' = perform rules call s in
      run_on (number rules call s) call s (making rules calls s') refl (makes_run calls s')

  pub run_then : (cs ds : List Call) (s s' s'' : State) → RunOf rules cs s s' → RunOf rules ds s' s'' → RunOf rules (cs ++ ds) s s''
  run_then cs ds s s' s'' p q =
      record {
        steps = p.steps ++ q.steps;
        by_the_rules = then rules s p.steps s' q.steps s'' p.by_the_rules q.by_the_rules;
        made = map-append call_of p.steps q.steps ∙ ap (λ xs. xs ++ map call_of q.steps) p.made ∙ ap (λ ys. cs ++ ys) q.made;
      }
