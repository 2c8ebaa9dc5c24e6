-- Ticks at which nothing is due only count the clock.
use Rattle.std.proofs.Common.{◌≡◌, ℕ, zero, suc, ◌+◌, ◌-◌, ◌*◌, ◌<◌, ◌≤◌, Bool, true, false, not, ltb, leb, List, length, replicate, sym, refl, ap, ◌∙◌, subst, ap₂, arith, lt-ltb, eqb-true}
use Rattle.std.proofs.lemmas.Bool.Decides.{nat_tests}
use Rattle.pace.specs.Meaning.{Meaning}
use Rattle.protocol.specs.declared.party.Party.{Party}
use Rattle.protocol.specs.declared.party.Standing.{Standing}
use Rattle.protocol.specs.declared.party.Standing.TheVariants.{Outside, Live, Ended}
use Rattle.protocol.specs.declared.happening.Happening.{Happening}
use Rattle.protocol.specs.declared.table.Table.{Table}
use Rattle.protocol.specs.declared.plan.Plan.{Plan}
use Rattle.protocol.specs.declared.call.Call.TheVariants.{Tick}
use Rattle.protocol.specs.Rules.{trip, patience, Rules}
use Rattle.protocol.specs.Party.{nobody}
use Rattle.protocol.specs.calls.Tick.{due, calls_in, times, times_as, times_live, any, amid, timer_log, live_word, tells_if, after_timers, after_round, after_round_if, after_clock, after_tick}
use Rattle.protocol.specs.State.{State}
use Rattle.protocol.specs.Questions.{asks, log_asks, is_own_log}
use Rattle.protocol.specs.Runs.{number, perform, unless}
use Rattle.protocol.specs.Making.{making, Same}
use Rattle.protocol.specs.Quiet.{with_clock, at_clock, timer_rests, Rests, Quiet, QuietUntil}
use Rattle.protocol.proofs.Lifts.{false_any}
use Rattle.protocol.proofs.Walks.{walks_still}
use Rattle.protocol.proofs.Making.{same_trans, tick_on}

-- a timer that rests keeps the party and the log
timer_still : (st : Standing) (clock d tmin last place i : ℕ) (p : Party) (log : List Happening) → timer_rests st d tmin (clock - p.own.since) ≡ true →
    (times_as st clock d tmin last place p ≡ p) × (timer_log st clock d tmin p.own.since i log ≡ log)
timer_still Outside clock d tmin last place i p log e = (refl, refl)
timer_still (Live g) clock d tmin last place i p log e =
    let silent = clock - p.own.since in
    let lasts : leb d silent ≡ false = grind (arith, nat_tests) in
    let rests : calls_in g tmin silent ≡ false = grind (arith, nat_tests) in
    (ap₂ (λ a b. times_live a b g clock last place p) lasts rests, ap₂ (λ a b. tells_if (live_word a b g) clock i log) lasts rests)
timer_still (Ended how at g) clock d tmin last place i p log e = (refl, refl)

-- the questions on the log, each answered yes
asked_log : (a b : Bool) → asks a 12 (asks b 13 0) ≡ 0 → (a ≡ true) × (b ≡ true)
asked_log true true e = (refl, refl)
asked_log true false e = absurd (omega arith)
asked_log false b e = absurd (omega arith)

pub asked_tick : (a b : Bool) (x : ℕ) → asks a 10 (asks b 11 x) ≡ 0 → x ≡ 0
asked_tick true true x e = e
asked_tick true false x e = absurd (omega arith)
asked_tick false b x e = absurd (omega arith)

-- nothing is known to be quiet
pub never_quiet : (m : Meaning) (plan : Plan) (t : Table) → QuietUntil m plan t 0
never_quiet m plan t = record { limit = λ h. omega arith; quiet = λ c from before. absurd (omega (arith, before)) }

-- what is quiet from the clock on is quiet from a tick later on
pub quiet_later : (m : Meaning) (plan : Plan) (t : Table) (b : ℕ) → t.clock < b → QuietUntil m plan t b → QuietUntil m plan (with_clock (t.clock + 1) t) b
quiet_later m plan t b h u =
    record { limit = λ after_clock. u.limit h; quiet = λ c from before. let q = u.quiet c (omega (arith, from)) before in record { root = q.root; parties = q.parties } }

module _ (rules : Rules) where
  abbrev log_ready : State → Type 0
  log_ready s = log_asks (2 * rules.plan.n) rules.room s ≡ 0

  none_due : (t : Table) (c : ℕ) → Quiet rules.meaning rules.plan t c → any (due c) rules.plan.n t.parties ≡ false
  none_due t c q = false_any (due c) rules.plan.n t.parties nobody (λ k h. (q.parties k h).legs)

  -- where nothing is due, the log alone may refuse a tick
  pub quiet_asks : (s : State) → s.table.clock < 4000000000 → Quiet rules.meaning rules.plan s.table s.table.clock → number rules Tick s ≡ log_asks (2 * rules.plan.n) rules.room s
  quiet_asks s h q =
      ap₂ (λ a b. asks a 10 (asks (not b) 11 (log_asks (2 * rules.plan.n) rules.room s))) (lt-ltb s.table.clock 4000000000 h) (none_due s.table s.table.clock q)

  own_length : (s : State) → log_ready s → length s.log ≡ s.table.logged
  own_length s e =
      let own = (asked_log (leb (length s.log + 2 * rules.plan.n) rules.room) (is_own_log s) e).1 in
      eqb-true (length s.log) s.table.logged (grind (arith, nat_tests))

  timed_still : (s : State) → Quiet rules.meaning rules.plan s.table s.table.clock → after_timers (patience rules.meaning rules.plan.kind) rules.meaning.tmin (trip rules.meaning) rules.plan.n s ≡ s
  timed_still s q =
      let t = s.table in
      let d = patience rules.meaning rules.plan.kind in
      let still = λ (i : ℕ) (p : Party) (r : Rests d rules.meaning.tmin t.clock p). timer_still p.own.standing t.clock d rules.meaning.tmin (t.clock + trip rules.meaning) (length s.log) i p s.log r.timer in
      let w = walks_still (λ _ log p. times t.clock d rules.meaning.tmin (t.clock + trip rules.meaning) (length log) p) (λ i log p. timer_log p.own.standing t.clock d rules.meaning.tmin p.own.since i log)
      (Rests d rules.meaning.tmin t.clock) s.log (λ i p r. (still i p r).0) (λ i p r. (still i p r).1) 1 rules.plan.n t.parties nobody q.parties in
      ap₂ (λ ps log. amid ps log t) w.0 w.1

  -- a tick that is not refused and at which nothing is due only counts the clock
  pub quiet_tick_only_counts : (s : State) → number rules Tick s ≡ 0 → log_ready s → Quiet rules.meaning rules.plan s.table s.table.clock →
      perform rules Tick s ≡ at_clock (s.table.clock + 1) s
  quiet_tick_only_counts s z e q =
      let round : after_round rules s ≡ s = ap (λ b. after_round_if b rules s) q.root in
      let timers = ap (λ x. after_timers (patience rules.meaning rules.plan.kind) rules.meaning.tmin (trip rules.meaning) rules.plan.n x) round ∙ timed_still s q in
      ap (λ k. unless k s (after_tick rules s)) z ∙ ap after_clock timers
      ∙ ap (λ (k : ℕ). record { table = record { clock = s.table.clock + 1; root = s.table.root; start = s.table.start; length = s.table.length; logged = k; parties = s.table.parties }; log = s.log }) (own_length s e)

  -- the log that fits the clock fits a later one
  pub ready_later : (s : State) (c : ℕ) → s.table.clock ≤ c → log_ready s → log_ready (at_clock c s)
  ready_later s c h e =
      let slots = leb (length s.log + 2 * rules.plan.n) rules.room in
      let own = asked_log slots (is_own_log s) e in
      let after_clock : is_own_log (at_clock c s) ≡ true = grind (arith, nat_tests) in
      ap₂ (λ a b. asks a 12 (asks b 13 0)) own.0 after_clock

  quiet_on : (d : ℕ) (until : ℕ) (s : State) (c : ℕ) → c ≡ s.table.clock + d → c ≤ until → c ≤ 4000000000 → log_ready s →
      ((k : ℕ) → s.table.clock ≤ k → k < c → Quiet rules.meaning rules.plan s.table k) →
      Same (making rules (replicate (until - s.table.clock) Tick) s) (making rules (replicate (until - c) Tick) (at_clock c s))
  quiet_on zero until s c e low limit ready q =
      let same : s.table.clock ≡ c = omega arith in
      subst (λ (x : ℕ). Same (making rules (replicate (until - s.table.clock) Tick) s) (making rules (replicate (until - x) Tick) (at_clock x s))) same
      (record { state = refl; number = refl })
  quiet_on (suc d) until s c e low limit ready q =
      let now = s.table.clock in
      let s₁ = at_clock (now + 1) s in
      let still = q now (omega arith) (omega arith) in
      let z = quiet_asks s (omega arith) still ∙ ready in
      let one = tick_on rules until s s₁ (omega arith) z (sym (quiet_tick_only_counts s z ready still)) in
      same_trans _ _ _ one
      (quiet_on d until s₁ c (omega arith) low limit (ready_later s (now + 1) (omega arith) ready) (λ k a b. let r = q k (omega arith) b in record { root = r.root; parties = r.parties }))

  -- ticks of which the first is not refused, at which nothing is due up to clock c, only count the clock
  pub quiet_ticks_only_count : (until : ℕ) (s : State) (c : ℕ) → number rules Tick s ≡ 0 → s.table.clock ≤ c → c ≤ until → c ≤ 4000000000 →
      ((k : ℕ) → s.table.clock ≤ k → k < c → Quiet rules.meaning rules.plan s.table k) →
      Same (making rules (replicate (until - s.table.clock) Tick) s) (making rules (replicate (until - c) Tick) (at_clock c s))
  quiet_ticks_only_count until s c z h low limit q =
      quiet_on (c - s.table.clock) until s c (omega arith) low limit
      (asked_tick (ltb s.table.clock 4000000000) (not (any (due s.table.clock) rules.plan.n s.table.parties)) (log_asks (2 * rules.plan.n) rules.room s) z) q
