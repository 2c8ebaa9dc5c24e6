-- Rounds that end with nobody on the roll, and in which nothing is due of a party, only move the round.
use Rattle.std.proofs.Common.{◌≡◌, ℕ, zero, suc, ◌+◌, ◌-◌, ◌*◌, ◌<◌, ◌≤◌, true, false, cond, min, ◌&&◌, eqb, List, [], length, replicate, get_or, sym, refl, ap, ◌∙◌, subst, ap₂, arith}
use Rattle.std.proofs.lemmas.Bool.Decides.{nat_tests}
use Rattle.std.proofs.lemmas.List.{replicate-append-replicate}
use Rattle.std.specs.List.{slice_get}
use Rattle.std.specs.Option.{unwrap_or}
use Rattle.pace.specs.Meaning.{Meaning, Lawful}
use Rattle.protocol.specs.declared.party.Party.{Party}
use Rattle.protocol.specs.declared.party.Roll.{Roll}
use Rattle.protocol.specs.declared.party.Roll.TheVariants.{Off, On, Struck}
use Rattle.protocol.specs.declared.happening.HappeningKind.TheVariants.{Sent}
use Rattle.protocol.specs.declared.plan.Plan.{Plan}
use Rattle.protocol.specs.declared.call.Call.{Call}
use Rattle.protocol.specs.declared.call.Call.TheVariants.{Tick}
use Rattle.protocol.specs.Party.{nobody, on_roll}
use Rattle.protocol.specs.calls.Tick.{missed, missed_all, sends, sends_as, any, amid, after_count, shorter, shortest, send_log, after_sending, after_start, after_verdict_of, after_verdict, after_round, after_round_if, round_ends, after_timers, after_clock, after_tick}
use Rattle.protocol.specs.State.{State, with_record}
use Rattle.protocol.specs.Rules.{Rules, trip, patience}
use Rattle.protocol.specs.Questions.{log_asks}
use Rattle.protocol.specs.Runs.{number, perform, unless}
use Rattle.protocol.specs.Making.{making, goes_on, Making, Same}
use Rattle.protocol.specs.Quiet.{at_clock, Quiet}
use Rattle.protocol.specs.Idle.{Idle, state_at_round_end, IdleRoundsOnlyMoveTheRound}
use Rattle.protocol.proofs.Lifts.{false_any, fold_still}
use Rattle.protocol.proofs.Walks.{walks_still}
use Rattle.protocol.proofs.Making.{makes_then}
use Rattle.protocol.proofs.Quiet.{quiet_asks, quiet_ticks_only_count, ready_later, asked_tick}

-- a party that is not on the roll misses nothing, and nothing is sent to it
missed_off : (r : Roll) (p : Party) → p.note.roll ≡ r → on_roll r ≡ false → missed p ≡ p
missed_off On p e f = cc
missed_off Off p e f = cc
missed_off Struck p e f = cc

sends_off : (r : Roll) (last place : ℕ) (p : Party) → on_roll r ≡ false → sends_as r last place p ≡ p
sends_off On last place p f = cc
sends_off Off last place p f = refl
sends_off Struck last place p f = refl

abbrev IsOff : Party → Type 0
IsOff p = on_roll p.note.roll ≡ false

-- a round's end with nobody on the roll
module _ (rules : Rules) (s : State)
    (off : (k : ℕ) → k < rules.plan.n → IsOff (get_or s.table.parties k nobody)) where
  abbrev ps : List Party
  ps = s.table.parties

  -- the next round, with nothing sent
  abbrev next_round : State
  next_round = after_start rules.meaning.tmax s

  counted_still : after_count rules.plan.n s ≡ s
  counted_still =
      let w = walks_still (λ _ (u : ℕ) p. missed p) (λ _ (u : ℕ) _. u) IsOff 0
      (λ k p e. missed_off p.note.roll p refl e) (λ k p e. refl) 1 rules.plan.n ps nobody off in
      ap (λ qs. amid qs s.log s.table) w.0

  none_missed_all : (rounds : ℕ) → any (missed_all rounds) rules.plan.n ps ≡ false
  none_missed_all rounds =
      false_any (missed_all rounds) rules.plan.n ps nobody
      (λ k h. ap (λ b. b && eqb (get_or ps k nobody).note.misses rounds) (off k h))

  none_shorter : shortest rules.meaning.waits rules.meaning.tmax rules.plan.n ps ≡ rules.meaning.tmax
  none_shorter =
      let wait : Party → ℕ = λ p. unwrap_or (slice_get rules.meaning.waits p.note.misses) rules.meaning.tmax in
      fold_still (shorter rules.meaning.waits) IsOff rules.meaning.tmax
      (λ p e. ap (λ b. cond b (min rules.meaning.tmax (wait p)) rules.meaning.tmax) e) rules.plan.n ps nobody off

  none_sent : (last : ℕ) → after_sending last rules.plan.n next_round ≡ next_round
  none_sent last =
      let clock = s.table.clock in
      let w = walks_still (λ _ log p. sends last (length log) p) (λ _ log p. send_log clock log p)
      IsOff s.log (λ k p e. sends_off p.note.roll last (length s.log) p e)
      (λ k p e. ap (λ b. cond b (with_record clock 0 Sent s.log) s.log) e) 1 rules.plan.n ps nobody off in
      ap₂ (λ qs log. amid qs log next_round.table) w.0 w.1

  pub next_round_starts : round_ends s.table ≡ true → after_round rules s ≡ next_round
  next_round_starts e =
      let last = s.table.clock + trip rules.meaning in
      ap (λ b. after_round_if b rules s) e ∙ ap (after_verdict rules) counted_still
      ∙ ap (λ b. after_verdict_of b rules s) (none_missed_all (length rules.meaning.waits))
      ∙ ap (λ w. after_sending last rules.plan.n (after_start w s)) none_shorter ∙ none_sent last

module _ (rules : Rules) where
  abbrev m : Meaning
  m = rules.meaning

  abbrev plan : Plan
  plan = rules.plan

  abbrev ticks : ℕ → State → Making
  ticks k s = making rules (replicate k Tick) s

  -- so many ticks are made, none of them refused, and come to s'
  abbrev ComesTo : ℕ → State → State → Type 0
  ComesTo k s s' = Same (ticks k s) (record { state = s'; calls = []; number = 0 })

  -- after ticks that come to s' others come to what they come to from there
  pub then_ticks : (k more : ℕ) (s s' : State) → ComesTo k s s' → Same (ticks (k + more) s) (ticks more s')
  then_ticks k more s s' h =
      let made : List Call → Making = λ calls. making rules calls s in
      let both = sym (replicate-append-replicate k more Tick) in
      let on = makes_then rules (replicate k Tick) (replicate more Tick) s h.number in
      record {
        state = ap (λ x. (made x).state) both ∙ on.state ∙ ap (λ x. (ticks more x).state) h.state;
        number = ap (λ x. (made x).number) both ∙ on.number ∙ ap (λ x. (ticks more x).number) h.state;
      }

  -- one idle round, from its end at the clock to the next one's
  module _ (sound : Lawful m) (s : State) (b : ℕ) (idle : Idle m plan s.table b) where
    abbrev anew : State
    anew = after_start m.tmax s

    abbrev next : State
    next = at_clock (s.table.clock + m.tmax) anew

    abbrev Granted : State → Type 0
    Granted x = number rules Tick x ≡ 0

    some : 0 < m.tmax
    some = omega (arith, sound.low, sound.ordered)

    quiet : (c : ℕ) → s.table.clock ≤ c → c < s.table.clock + m.tmax → c < b → Quiet m plan anew.table c
    quiet c from before below =
        record { root = grind (arith, nat_tests); parties = idle.rest c from below }

    -- the tick that ends the round is that of the next one at its start
    same_tick : s.table.clock < b → after_tick rules s ≡ after_tick rules anew
    same_tick below =
        let n = plan.n in
        let now = (quiet s.table.clock (omega arith) (omega (arith, some)) below).root in
        let still : after_round rules anew ≡ anew = ap (λ e. after_round_if e rules anew) now in
        ap (λ x. after_clock (after_timers (patience m plan.kind) m.tmin (trip m) n x))
        (next_round_starts rules s idle.off idle.ends ∙ sym still)

    same_ticks : (k : ℕ) → s.table.clock < b → Granted s → Same (ticks (suc k) s) (ticks (suc k) anew)
    same_ticks k below z =
        let after : State → State = perform rules Tick in
        let e : after s ≡ after anew =
        ap (λ j. unless j s (after_tick rules s)) z ∙ same_tick below
        ∙ sym (ap (λ j. unless j anew (after_tick rules anew)) z) in
        let made : ℕ → State → Making = λ j x. goes_on j Tick x (ticks k (after x)) in
        record {
          state = ap (λ j. (made j s).state) z ∙ ap (λ x. (ticks k x).state) e
              ∙ sym (ap (λ j. (made j anew).state) z);
          number = ap (λ j. (made j s).number) z ∙ ap (λ x. (ticks k x).number) e
              ∙ sym (ap (λ j. (made j anew).number) z);
        }

    one_round : s.table.clock + m.tmax ≤ b → s.table.clock + m.tmax ≤ 4000000000 → Granted s →
        ComesTo m.tmax s next
    one_round low limit z =
        let now = s.table.clock in
        let end = now + m.tmax in
        let first : suc (m.tmax - 1) ≡ m.tmax = omega (arith, some) in
        let a = subst (λ j. Same (ticks j s) (ticks j anew)) first
        (same_ticks (m.tmax - 1) (omega (arith, some)) z) in
        let count = quiet_ticks_only_count rules end anew end z (omega arith) (omega arith) limit
        (λ c from before. quiet c from before (omega arith)) in
        let all : end - now ≡ m.tmax = omega arith in
        let none : end - end ≡ 0 = omega arith in
        let q = subst (λ j. Same (ticks m.tmax anew) (ticks j next)) none
        (subst (λ j. Same (ticks j anew) (ticks (end - end) next)) all count) in
        record { state = a.state ∙ q.state; number = a.number ∙ q.number }

    next_idle : Idle m plan next.table b
    next_idle =
        record {
          ends = grind (arith, nat_tests);
          off = idle.off;
          rest = λ c from below. idle.rest c (omega (arith, from)) below;
        }

    next_granted : s.table.clock + m.tmax < b → s.table.clock + m.tmax < 4000000000 → Granted s → Granted next
    next_granted below limit z =
        let end = s.table.clock + m.tmax in
        let ready = asked_tick _ _ (log_asks (2 * plan.n) rules.room s) z in
        let still : Quiet m plan (after_start m.tmax next).table end =
        record { root = grind (arith, nat_tests, some); parties = idle.rest end (omega arith) below } in
        quiet_asks rules (after_start m.tmax next) limit still
        ∙ ready_later rules s end (omega arith) ready

  -- from idle round to idle round, up to tick c
  idle_rounds : Lawful m → (k : ℕ) (s : State) (c : ℕ) → c ≡ s.table.clock + suc k * m.tmax →
      c ≤ 4000000000 → Idle m plan s.table c → number rules Tick s ≡ 0 →
      ComesTo (suc k * m.tmax) s (state_at_round_end m.tmax c s)
  idle_rounds sound zero s c e limit idle z =
      let t = s.table in
      let one = one_round sound s c idle (omega (arith, e)) (omega (arith, e)) z in
      let long : m.tmax ≡ suc zero * m.tmax = omega arith in
      let clock : t.clock + m.tmax ≡ c = omega (arith, e) in
      let start : t.clock ≡ c - m.tmax = omega (arith, e) in
      let at : ℕ → ℕ → State = λ x y.
      record {
        table = record t { clock = x; start = y; length = m.tmax };
        log = s.log;
      } in
      subst (λ j. ComesTo j s (state_at_round_end m.tmax c s)) long
      (subst (ComesTo m.tmax s) (ap₂ at clock start) one)
  idle_rounds sound (suc k) s c e limit idle z =
      let s' = next sound s c idle in
      let split : m.tmax + suc k * m.tmax ≡ suc (suc k) * m.tmax = omega arith in
      let more : m.tmax ≤ suc k * m.tmax = omega arith in
      let least = some sound s c idle in
      let one = one_round sound s c idle (omega (arith, e)) (omega (arith, e)) z in
      let granted = next_granted sound s c idle (omega (arith, e, more, least)) (omega (arith, e, more, least)) z in
      let others = idle_rounds sound k s' c (omega (arith, e)) limit (next_idle sound s c idle) granted in
      let on = then_ticks m.tmax (suc k * m.tmax) s s' one in
      subst (λ j. ComesTo j s (state_at_round_end m.tmax c s)) split
      (record { state = on.state ∙ others.state; number = on.number ∙ others.number })

  pub idle_rounds_only_move_the_round :
      Lawful m → (s : State) (rounds : ℕ) → IdleRoundsOnlyMoveTheRound rules s rounds
  idle_rounds_only_move_the_round sound s zero some limit idle z = absurd (omega arith)
  idle_rounds_only_move_the_round sound s (suc k) some limit idle z =
      idle_rounds sound k s (s.table.clock + suc k * m.tmax) refl limit idle z
