-- What every run's log shows of its beats, and that it is in order.
use Rattle.std.proofs.Common.{◌≡◌, ℕ, zero, suc, ◌+◌, ◌-◌, ◌*◌, ◌<◌, Bool, true, false, cond, not, ◌||◌, ltb, leb, List, [], ◌∷◌, length, get_or, Some, None, Option, refl, ◌∙◌, arith}
use Rattle.protocol.specs.declared.party.Beat.{Beat}
use Rattle.protocol.specs.declared.happening.Happening.{Happening}
use Rattle.protocol.specs.declared.call.Call.{Call}
use Rattle.protocol.specs.declared.call.Call.TheVariants.{Tick, Deliver, Lose, Crash, Join, Leave}
use Rattle.protocol.specs.Party.{on_leg}
use Rattle.protocol.specs.calls.Tick.{due, any}
use Rattle.protocol.specs.Rules.{Rules}
use Rattle.protocol.specs.State.{State, the, opening}
use Rattle.protocol.specs.calls.Deliver.{after_arrival}
use Rattle.protocol.specs.calls.Lose.{after_loss_of}
use Rattle.protocol.specs.Questions.{asks, is_own_log, log_asks, is_party}
use Rattle.protocol.specs.Runs.{number, effect, state_after, run_state}
use Rattle.std.specs.Prelude.{is_some}
use Rattle.protocol.specs.calls.Join.{may_join, is_outside}
use Rattle.protocol.specs.calls.Leave.{may_leave, is_in}
use Rattle.protocol.specs.calls.Crash.{can_crash}
use Rattle.protocol.specs.Beats.{is_arrival, happening_at, Edge, edge, edges, SourcesDiffer, BeatsAreLogged, SendingsSettleOnce}
use Rattle.protocol.specs.Order.{LogInOrder}
use Rattle.protocol.proofs.Logs.{at, held_at}
use Rattle.protocol.proofs.every.Logs.{run_logged}
use Rattle.protocol.proofs.Own.{owns}
use Rattle.protocol.proofs.every.Records.{owned}
use Rattle.protocol.proofs.Runs.{every_state}

-- in every run the beats are logged
pub logs_beats : (rules : Rules) (calls : List Call) → BeatsAreLogged rules (state_after rules calls (opening rules))
logs_beats rules calls =
    let s = state_after rules calls (opening rules) in
    let t = (run_logged rules calls).told in
    record { on_legs = λ i leg b lo hi e. held_at (at s) rules s i leg b lo hi t e; arrivals = t.linked; losses = t.losses }

-- the edge at i is of an arrival of the log
abbrev OfArrival : List Edge → List Happening → ℕ → Type 0
OfArrival es log i = (j : ℕ) × (j < length log) × (is_arrival (happening_at log j).kind ≡ true) × ((get_or es i (edge 0 0)).source ≡ (happening_at log j).link)

arrival_as : (k : ℕ) (x : Happening) (log : List Happening) → ((i : ℕ) → i < length (edges (suc k) log) → OfArrival (edges (suc k) log) log i) →
    (b : Bool) → is_arrival x.kind ≡ b → (i : ℕ) → let es = cond b (edge x.link k ∷ edges (suc k) log) (edges (suc k) log) in
    i < length es → OfArrival es (x ∷ log) i
arrival_as k x log rest true e zero h = (0, omega arith, e, refl)
arrival_as k x log rest true e (suc i) h = let a = rest i (omega arith) in (suc a.0, omega (arith, a.1), a.2, a.3)
arrival_as k x log rest false e i h = let a = rest i h in (suc a.0, omega (arith, a.1), a.2, a.3)

arrival_of : (k : ℕ) (log : List Happening) (i : ℕ) → i < length (edges k log) → OfArrival (edges k log) log i
arrival_of k [] i h = absurd (omega arith)
arrival_of k (x ∷ log) i h = arrival_as k x log (arrival_of (suc k) log) (is_arrival x.kind) refl i h

-- arrivals link to different places
abbrev ArrivalsDiffer : List Happening → Type 0
ArrivalsDiffer log =
    (j k : ℕ) → j < k → k < length log → is_arrival (happening_at log j).kind ≡ true → is_arrival (happening_at log k).kind ≡ true → (happening_at log j).link ≡ (happening_at log k).link → ⊥

sources_as : (k : ℕ) (x : Happening) (log : List Happening) → ArrivalsDiffer (x ∷ log) → SourcesDiffer (edges (suc k) log) → (b : Bool) → is_arrival x.kind ≡ b →
    SourcesDiffer (cond b (edge x.link k ∷ edges (suc k) log) (edges (suc k) log))
sources_as k x log differ rest true e i zero lt h same = absurd (omega arith)
sources_as k x log differ rest true e zero (suc j) lt h same =
    let a = arrival_of (suc k) log j (omega arith) in differ 0 (suc a.0) (omega arith) (omega (arith, a.1)) e a.2 (same ∙ a.3)
sources_as k x log differ rest true e (suc i) (suc j) lt h same = rest i j (omega arith) (omega arith) same
sources_as k x log differ rest false e i j lt h same = rest i j lt h same

sources : (k : ℕ) (log : List Happening) → ArrivalsDiffer log → SourcesDiffer (edges k log)
sources k [] differ i j lt h = absurd (omega arith)
sources k (x ∷ log) differ i j lt h =
    sources_as k x log differ (sources (suc k) log (λ a b l u. differ (suc a) (suc b) (omega arith) (omega arith))) (is_arrival x.kind) refl i j lt h

arrival_settles : (a b : Bool) → a ≡ true → (a || b) ≡ true
arrival_settles true b e = refl
arrival_settles false b e = absurd (grind arith)

pub settle_once : (rules : Rules) (calls : List Call) → SendingsSettleOnce rules (run_state rules calls)
settle_once rules calls =
    let t = (run_logged rules calls).told in
    record {
      once = t.once;
      sources_differ = sources 0 _ (λ j k lt h is_j is_k. t.once j k lt h (arrival_settles _ _ is_j) (arrival_settles _ _ is_k));
      under_way = λ i leg b lo hi. t.under_way (i - 1) leg b (omega arith);
      apart = λ i leg b lo hi e i' leg' b' lo' hi' e' same.
          let z = t.apart (i - 1) leg b (i' - 1) leg' b' (omega arith) (omega arith) e e' same in (omega (arith, z.0), z.1);
    }

-- the table counts the records

abbrev Counts : State → Type 0
Counts s = s.table.logged ≡ length s.log

module _ (rules : Rules) where
  counts_delivery : (o : Option Beat) (i leg : ℕ) (s : State) → Counts s → Counts (after_arrival o i leg s)
  counts_delivery None i leg s e = e
  counts_delivery (Some b) i leg s e = refl

  counts_loss : (o : Option Beat) (i leg : ℕ) (s : State) → Counts s → Counts (after_loss_of o i leg s)
  counts_loss None i leg s e = e
  counts_loss (Some b) i leg s e = refl

  counts_done : (call : Call) (s : State) → Counts s → Counts (effect rules call s)
  counts_done Tick s e = refl
  counts_done (Deliver i leg) s e = counts_delivery (on_leg leg (the i s.table)) i leg s e
  counts_done (Lose i leg) s e = counts_loss (on_leg leg (the i s.table)) i leg s e
  counts_done (Crash zero) s e = refl
  counts_done (Crash (suc i)) s e = refl
  counts_done (Join i) s e = refl
  counts_done (Leave i) s e = refl

-- the questions on the log never answer 13, and so no question before them

log_asked : (slots room : ℕ) (s : State) → is_own_log s ≡ true → log_asks slots room s ≡ 13 → ⊥
log_asked slots room s own e = shape (leb (length s.log + slots) room) (is_own_log s) own e
  where
    shape : (a b : Bool) → b ≡ true → asks a 12 (asks b 13 0) ≡ 13 → ⊥
    shape a b is e = grind arith

passed_two : (a b : Bool) (j k x : ℕ) → asks a j (asks b k x) ≡ 13 → j < 12 → k < 12 → x ≡ 13
passed_two true true j k x e lo hi = e
passed_two true false j k x e lo hi = absurd (omega arith)
passed_two false b j k x e lo hi = absurd (omega arith)

passed_three : (a b c : Bool) (x : ℕ) → asks a 6 (asks b 7 (asks c 8 x)) ≡ 13 → x ≡ 13
passed_three true b c x e = passed_two b c 7 8 x e (omega arith) (omega arith)
passed_three false b c x e = absurd (omega arith)

never_another : (rules : Rules) (call : Call) (s : State) → is_own_log s ≡ true → number rules call s ≡ 13 → ⊥
never_another rules Tick s own e =
    log_asked (2 * rules.plan.n) rules.room s own
    (passed_two (ltb s.table.clock 4000000000) (not (any (due s.table.clock) rules.plan.n s.table.parties)) 10 11 _ e (omega arith) (omega arith))
never_another rules (Deliver i leg) s own e =
    log_asked 2 rules.room s own (passed_two (is_party rules.plan.n i) (is_some (on_leg leg (the i s.table))) 6 9 _ e (omega arith) (omega arith))
never_another rules (Lose i leg) s own e =
    log_asked 2 rules.room s own (passed_two (is_party rules.plan.n i) (is_some (on_leg leg (the i s.table))) 6 9 _ e (omega arith) (omega arith))
never_another rules (Crash i) s own e = log_asked 2 rules.room s own (passed_two (leb i rules.plan.n) (can_crash i s) 6 8 _ e (omega arith) (omega arith))
never_another rules (Join i) s own e = log_asked 2 rules.room s own (passed_three (is_party rules.plan.n i) (may_join rules.plan.kind) (is_outside (the i s.table).own.standing) _ e)
never_another rules (Leave i) s own e = log_asked 2 rules.room s own (passed_three (is_party rules.plan.n i) (may_leave rules.plan.kind) (is_in (the i s.table).own.standing) _ e)

pub in_order : (rules : Rules) (calls : List Call) → LogInOrder rules (run_state rules calls)
in_order rules calls =
    let s = state_after rules calls (opening rules) in
    let o = (run_logged rules calls).told.order in
    let e = every_state rules (opening rules) Counts (λ call s z e. counts_done rules call s e) refl calls in
    record { in_order = o; owned = owned rules calls; counted = e; never_another = λ room call. never_another (record rules { room = room }) call s (owns s o e) }
