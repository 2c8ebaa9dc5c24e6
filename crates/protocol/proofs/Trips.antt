-- A beat is under way for at most a trip.
use Rattle.std.proofs.Common.{◌≡◌, ℕ, zero, suc, ◌+◌, ◌-◌, ◌<◌, ◌≤◌, Bool, true, false, ◌||◌, ◌⊎◌, List, [], ◌∷◌, ◌++◌, length, Some, sym, refl, ap, ◌∙◌, subst, inl, inr, arith}
use native.Mathlib.Decide.{dec_lt}
use Rattle.protocol.specs.declared.party.Beat.{Beat}
use Rattle.protocol.specs.declared.happening.Happening.{Happening}
use Rattle.protocol.specs.declared.call.Call.{Call}
use Rattle.protocol.specs.declared.call.Call.TheVariants.{Tick, Deliver, Lose, Crash, Join, Leave}
use Rattle.pace.specs.Meaning.{Lawful}
use Rattle.protocol.specs.Rules.{trip, Rules}
use Rattle.protocol.specs.Party.{on_leg}
use Rattle.protocol.specs.State.{State, the, opening}
use Rattle.protocol.specs.calls.Lose.{sender}
use Rattle.protocol.specs.Runs.{number, effect, unless, perform, state_after, run_state}
use Rattle.protocol.specs.Rehearsals.{adds}
use Rattle.protocol.specs.Beats.{is_arrival, is_loss, settles, happening_at, SentBy}
use Rattle.protocol.specs.Sendings.{UnderWay}
use Rattle.protocol.specs.Trips.{tick_at, BeatsComeInTime}
use Rattle.protocol.proofs.every.Logs.{run_logged, held}
use Rattle.protocol.proofs.Runs.{every_run, run_append, granted_effect}
use Rattle.protocol.proofs.calls.Tick.{tick_puts}
use Rattle.protocol.proofs.Records.{Grown, Wrote}
use Rattle.protocol.proofs.every.Records.{call_writes, grows}
use Rattle.protocol.proofs.Ticks.{done_clock}
use Rattle.protocol.proofs.every.Whole.{last_ticks}

module _ (rules : Rules) (sound : Lawful rules.meaning) where
  -- a call that is no tick leaves the clock
  later : (before : List Call) (call : Call) (i leg : ℕ) (b : Beat) → let s = run_state rules before in
      number rules call s ≡ 0 → 1 ≤ i → i ≤ rules.plan.n → on_leg leg (the i (effect rules call s).table) ≡ Some b → adds call true ≡ 0 →
      b.last ≤ s.table.clock + trip rules.meaning
  later before call i leg b z lo hi e still =
      let s = run_state rules before in
      let same = run_append rules before (call ∷ []) (opening rules) ∙ granted_effect rules call s z in
      let f = last_ticks rules sound (before ++ call ∷ []) i leg b lo hi (subst (λ (t : State). on_leg leg (the i t.table) ≡ Some b) (sym same) e) in
      omega (arith, f.1, ap (λ (t : State). t.table.clock) same, done_clock rules call s, still)

  -- a beat that a granted call has put on a leg comes no later than a trip after the call
  puts : (before : List Call) (call : Call) (i leg : ℕ) (b : Beat) → let s = run_state rules before in
      number rules call s ≡ 0 → 1 ≤ i → i ≤ rules.plan.n → on_leg leg (the i (effect rules call s).table) ≡ Some b →
      (on_leg leg (the i s.table) ≡ Some b) ⊎ (b.last ≤ s.table.clock + trip rules.meaning)
  puts before Tick i leg b z lo hi e =
      let s = run_state rules before in
      elim (tick_puts rules (i - 1) (omega arith) s (run_logged rules before).told.long leg b e) [ inl old ↦ inl old | inr new ↦ inr (omega (arith, new)) ]
  puts before (Deliver j l) i leg b z lo hi e = inr (later before (Deliver j l) i leg b z lo hi e refl)
  puts before (Lose j l) i leg b z lo hi e = inr (later before (Lose j l) i leg b z lo hi e refl)
  puts before (Crash j) i leg b z lo hi e = inr (later before (Crash j) i leg b z lo hi e refl)
  puts before (Join j) i leg b z lo hi e = inr (later before (Join j) i leg b z lo hi e refl)
  puts before (Leave j) i leg b z lo hi e = inr (later before (Leave j) i leg b z lo hi e refl)

  -- until when a beat on a leg is under way, by its sending

  module _ (calls : List Call) (i leg : ℕ) (b : Beat) (lo : 1 ≤ i) (hi : i ≤ rules.plan.n) where
    written_at : (before : List Call) (call : Call) (k : ℕ) → let now = run_state rules before in
        number rules call now ≡ k → length now.log ≤ b.place →
        SentBy (unless k now (effect rules call now)).log (sender leg i) b.place → on_leg leg (the i (unless k now (effect rules call now)).table) ≡ Some b →
        b.last ≤ tick_at (unless k now (effect rules call now)).log b.place + trip rules.meaning
    written_at before call zero z not_yet written put =
        elim (puts before call i leg b z lo hi put) [
          | inl old ↦ absurd (omega (arith, (held rules before i leg b lo hi old).below))
          | inr new ↦ omega (arith, new, ((call_writes rules call (run_state rules before) z).fresh b.place not_yet written.below).1)
        ]
    written_at before call (suc k) z not_yet written put = absurd (omega (arith, (held rules before i leg b lo hi put).below))

    last_after_sending : on_leg leg (the i (run_state rules calls).table) ≡ Some b → b.last ≤ tick_at (run_state rules calls).log b.place + trip rules.meaning
    last_after_sending e =
        let p = (run_logged rules calls).put i leg b lo hi e in
        let now = run_state rules p.before in
        let then = perform rules p.call now in
        let near = written_at p.before p.call (number rules p.call now) refl p.not_yet p.written p.put in
        let kept = (grows rules then p.after).kept b.place p.written.below in
        let same : run_state rules calls ≡ state_after rules p.after then =
        ap (λ cs. run_state rules cs) p.among ∙ run_append rules p.before (p.call ∷ p.after) (opening rules) in
        omega (arith, near, ap (λ (h : Happening). h.tick) kept, ap (λ (t : State). tick_at t.log b.place) same)

  -- arrivals and losses

  abbrev InTime : List Happening → Type 0
  InTime log = (k : ℕ) → k < length log → settles (happening_at log k).kind ≡ true → tick_at log k ≤ tick_at log (happening_at log k).link + trip rules.meaning

  -- an arrival or a loss links to an earlier place
  linked_before : (calls : List Call) → let log = (run_state rules calls).log in
      (k : ℕ) → k < length log → settles (happening_at log k).kind ≡ true → (happening_at log k).link < k
  linked_before calls k below is =
      let log = (run_state rules calls).log in
      let t = (run_logged rules calls).told in
      go (is_arrival (happening_at log k).kind) (is_loss (happening_at log k).kind) (λ e. (t.linked k below e).earlier) (λ e. (t.losses k below e).earlier) is
    where
      go : (x y : Bool) → (x ≡ true → (happening_at (run_state rules calls).log k).link < k) → (y ≡ true → (happening_at (run_state rules calls).log k).link < k) →
          (x || y) ≡ true → (happening_at (run_state rules calls).log k).link < k
      go true y f g e = f refl
      go false true f g e = g refl
      go false false f g e = absurd (grind arith)

  module _ (before : List Call) where
    abbrev now : State
    now = run_state rules before

    abbrev Writes : List Happening → Type 0
    Writes = Grown (Wrote rules.plan.n now.table.clock (UnderWay rules.plan.n now.table)) now.log

    -- a record that stood there
    earlier : (log : List Happening) (k : ℕ) → Writes log → InTime now.log → k < length now.log → settles (happening_at log k).kind ≡ true →
        tick_at log k ≤ tick_at log (happening_at log k).link + trip rules.meaning
    earlier log k g old early is =
        let e = g.kept k early in
        let is' : settles (happening_at now.log k).kind ≡ true = ap (λ (h : Happening). settles h.kind) (sym e) ∙ is in
        let f = g.kept (happening_at now.log k).link (omega (arith, linked_before before k early is')) in
        let same : tick_at log (happening_at log k).link ≡ tick_at now.log (happening_at now.log k).link =
        ap (λ (h : Happening). tick_at log h.link) e ∙ ap (λ (h : Happening). h.tick) f in
        omega (arith, old k early is', ap (λ (h : Happening). h.tick) e, same)

    -- a new one, of a beat that was under way
    latest : (log : List Happening) (h : Happening) → Writes log → Wrote rules.plan.n now.table.clock (UnderWay rules.plan.n now.table) h → settles h.kind ≡ true →
        h.tick ≤ tick_at log h.link + trip rules.meaning
    latest log h g w is =
        let u = w.2 is in
        let b = u.beat in
        let last = last_ticks rules sound before u.party u.leg b u.of_a_party.0 u.of_a_party.1 u.stands in
        let near = last_after_sending before u.party u.leg b u.of_a_party.0 u.of_a_party.1 u.stands in
        let below = (held rules before u.party u.leg b u.of_a_party.0 u.of_a_party.1 u.stands).below in
        let same : tick_at log h.link ≡ tick_at now.log b.place =
        ap (tick_at log) (sym u.sent_there) ∙ ap (λ (x : Happening). x.tick) (g.kept b.place below) in
        omega (arith, w.1, last.0, near, same)

    settles_in_time : (call : Call) → number rules call now ≡ 0 → InTime now.log → InTime (effect rules call now).log
    settles_in_time call z old k below is =
        let log = (effect rules call now).log in
        let g = call_writes rules call now z in
        elim (dec_lt k (length now.log)) [
          | yes early ↦ earlier log k g old early is
          | no late ↦ latest log (happening_at log k) g (g.fresh k (omega arith) below) is
        ]

  run_in_time : (calls : List Call) → InTime (run_state rules calls).log
  run_in_time =
      every_run rules (opening rules) (λ _ s. InTime s.log)
      (λ before call z old. settles_in_time before call z old) (λ before call k z old. old) (λ k below. absurd (omega arith))

pub in_time : (rules : Rules) → Lawful rules.meaning → (calls : List Call) → BeatsComeInTime rules (run_state rules calls)
in_time rules sound calls = record {
  settled = run_in_time rules sound calls;
  under_way = λ i leg b lo hi e.
      ((last_ticks rules sound calls i leg b lo hi e).0, last_after_sending rules sound calls i leg b lo hi e);
}
