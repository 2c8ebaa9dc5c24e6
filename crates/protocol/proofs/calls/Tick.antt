-- A tick keeps what holds of each run.
use Rattle.std.proofs.Common.{take, Bool, List, None, Option, Some, [], ap, arith, cond, eqb, false, get_or, inl, inr, leb, length, mod-eq_of_lt, refl, subst, suc, sym, true, unwrap_or, zero, ℕ, ◌%◌, ◌&&◌, ◌+◌, ◌-◌, ◌<◌, ◌∙◌, ◌∷◌, ◌≡◌, ◌≤◌, ◌⊎◌}
use native.Mathlib.Nat.{add-mod, mod-mod}
use Rattle.std.proofs.lemmas.Bool.Decides.{nat_tests}
use Rattle.std.proofs.lemmas.Option.{slice_get-get_or}
use Rattle.pace.specs.Meaning.{Lawful}
use Rattle.protocol.specs.declared.party.Party.{Party}
use Rattle.protocol.specs.declared.party.Beat.{Beat}
use Rattle.protocol.specs.declared.party.Stage.{Stage}
use Rattle.protocol.specs.declared.party.Standing.{Standing}
use Rattle.protocol.specs.declared.party.Standing.TheVariants.{Ended, Live, Outside}
use Rattle.protocol.specs.declared.table.Root.{Root}
use Rattle.protocol.specs.declared.table.Root.TheVariants.{Down, Running}
use Rattle.protocol.specs.declared.table.RootEnding.TheVariants.{Stopped as RootStopped}
use Rattle.protocol.specs.declared.kind.GroupKind.{GroupKind}
use Rattle.protocol.specs.declared.happening.Happening.{Happening}
use Rattle.protocol.specs.declared.table.Table.{Table}
use Rattle.protocol.specs.declared.call.Call.TheVariants.{Tick}
use Rattle.protocol.specs.declared.party.Roll.{Roll}
use Rattle.protocol.specs.declared.happening.HappeningKind.{HappeningKind}
use Rattle.protocol.specs.declared.party.Stage.TheVariants.{In, Joining as Joins, Leaving as Leaves}
use Rattle.protocol.specs.declared.party.Roll.TheVariants.{Off, On, Struck as StruckOff}
use Rattle.protocol.specs.declared.happening.HappeningKind.TheVariants.{Left as HasLeft, Sent, Stopped as HasStopped}
use Rattle.protocol.specs.Party.{beat, live, nobody, on_leg, on_roll}
use Rattle.protocol.specs.calls.Tick.{after_clock, after_count, after_round, after_round_if, after_sending, after_start, after_stop, after_tick, after_timers, after_verdict_of, any, calls_in, due, live_word, missed, missed_all, round_ends, send_log, sends, sends_as, shorter, shortest, tells_if, timer_log, times, times_as, times_live}
use Rattle.protocol.specs.Kept.{Kept, LawfulTerms, Scene, Terms, Whole}
use Rattle.protocol.specs.Rules.{Rules, patience, trip}
use Rattle.protocol.specs.State.{State, happening, runs, with_record}
use Rattle.protocol.specs.Beats.{FreeFor}
use Rattle.protocol.specs.Walk.{folds}
use Rattle.protocol.specs.Told.{account_of, root_in, account_in}
use Rattle.protocol.specs.Strikes.{IsStruck}
use Rattle.protocol.proofs.Lifts.{any_false, false_any, fold_above, fold_below, fold_falls, walks_at, walks_each, walks_long}
use Rattle.protocol.proofs.Onward.{Onward, folds_onward, sent_push, stay, told}
use Rattle.protocol.proofs.Legs.{Turned, put_entry, put_out, stays}
use Rattle.protocol.proofs.Clock.{rounded_clock}
use Rattle.protocol.proofs.Kept.{gone}
use Rattle.protocol.proofs.Whole.{AllKept, KeptAt, M, clash, law}
use Rattle.protocol.proofs.Logs.{LogGoes, LogHolds, LogNext, Moment, Told, cond_onward, log_idles, log_passes, log_quietly, moves}
use Rattle.protocol.proofs.Records.{Grown, Wrote, folds_grow, grown_by_one, grown_cond, grown_further, grown_stays}
use Rattle.protocol.proofs.Told.{TellsParty, TellsRoot, account_cond, account_idle, account_mine, account_other, account_passes, read_mine, read_past, root_conds, root_idle, root_other, root_step}
use Rattle.protocol.proofs.Sendings.{AllAccounted, Beside, Has, HasOne, beats_pass, beats_tell_root, beside_puts, beside_stays, beside_tells, keeps_entry, keeps_out, weaken_accounted, with_entry}
use Rattle.protocol.proofs.Strikes.{HasStruck, walks_keep}

-- a group stays whole

next_step : (c h x n : ℕ) → (c + x - (h + x)) % n ≡ (c - h) % n
next_step c h x n = ap (λ y. y % n) (omega arith)

-- no two multiples of n are apart by less than n
no_gap : (c h x n : ℕ) → h ≤ c → (c - h) % n ≡ 0 → (x - h) % n ≡ 0 → c < x → x < c + n → ⊥
no_gap c h x n below e f lo hi =
    let d : (x - h) % n ≡ (x - c) % n =
    ap (λ y. y % n) (omega arith) ∙ add-mod (c - h) (x - c) n ∙ ap (λ y. (y + (x - c) % n) % n) e ∙ ap (λ y. y % n) (omega arith) ∙ mod-mod (x - c) n in
    let g : (x - c) % n ≡ x - c = mod-eq_of_lt (omega arith) in
    omega arith

-- nor is one after x - t and before x, where t is at most n
no_call_between : (c h x t n : ℕ) → t ≤ n → h + t ≤ x → (x - (h + t)) % n ≡ 0 → (c - h) % n ≡ 0 → c < x → x < c + t → ⊥
no_call_between c h x t n small below e f lo hi =
    no_gap (x - t) h c n (omega arith) (ap (λ y. y % n) (omega arith) ∙ e) f (omega arith) (omega arith)

module _ (m : Terms) (kind : GroupKind) (law : LawfulTerms m kind) (q : Bool) (c : ℕ) (r : Root) (a l : ℕ) (s : Scene m c r a l) (p : Party)
    (k : Kept m kind q c r a l p) where
  pub free_out : c ≡ a + l → due c p ≡ false → p.legs.out ≡ None
  free_out end quiet = gone _ (grind (arith, nat_tests))

  pub free_entry : p.own.standing ≡ Live Joins → due c p ≡ false → p.own.since < c → (c - p.own.since) % m.tmin ≡ 0 → p.legs.entry ≡ None
  free_entry e quiet lo whole = go p.legs.entry refl
    where
      go : (o : Option Beat) → p.legs.entry ≡ o → o ≡ None
      go None f = refl
      go (Some b) f = let g = no_call_between c p.own.since b.last m.trip m.tmin law.trip_within in absurd (grind (arith, nat_tests))

  root_stop_kept : r ≡ Running → q ≡ false → Kept m kind q c (Down RootStopped c) a l (missed p)
  root_stop_kept up bad = grind (arith, nat_tests)

  next_round_kept :
      (l' place : ℕ) → r ≡ Running → c ≡ a + l → due c p ≡ false → m.tmin ≤ l' → l' ≤ m.tmax →
      (p.note.roll ≡ On → l' ≤ m.wait (missed p).note.misses) → ((missed p).note.misses < m.span) →
      Kept m kind q c Running c l' (sends (c + m.trip) place (missed p))
  next_round_kept l' place up end quiet lo hi w few =
      let f = law.part (suc (suc p.note.misses)) in
      let g = law.step (suc p.note.misses) in
      let g₀ = law.step 0 in
      grind (arith, nat_tests)

  missed_fewer : r ≡ Running → missed_all m.span (missed p) ≡ false → (missed p).note.misses < m.span
  missed_fewer up h = grind (arith, nat_tests)

  send_quiet : (place : ℕ) → due c p ≡ false → due c (sends (c + m.trip) place (missed p)) ≡ false
  send_quiet place h = grind (arith, nat_tests)

  none_missed_all_kept : q ≡ true → c ≡ a + l → due c p ≡ false → missed_all m.span (missed p) ≡ false
  none_missed_all_kept good end quiet = grind (arith, nat_tests)

  module _ (place : ℕ) (early : r ≡ Running → c < a + l) (quiet : due c p ≡ false) where
    timer_idles_kept : (st : Standing) → p.own.standing ≡ st → live st ≡ false → Kept m kind q (c + 1) r a l p
    timer_idles_kept st e h = grind (arith, nat_tests)

    timer_lives_kept : (g : Stage) (ends calls : Bool) → p.own.standing ≡ Live g → leb m.patience (c - p.own.since) ≡ ends →
        calls_in g m.tmin (c - p.own.since) ≡ calls → Kept m kind q (c + 1) r a l (times_live ends calls g c (c + m.trip) place p)
    timer_lives_kept Joins true calls e f g = let t = law.part (suc p.note.misses) in grind (arith, nat_tests)
    timer_lives_kept In true calls e f g = let t = law.part (suc p.note.misses) in grind (arith, nat_tests)
    timer_lives_kept Leaves true calls e f g = let t = law.part (suc p.note.misses) in grind (arith, nat_tests)
    timer_lives_kept Joins false true e f g =
        let small : c - p.own.since < m.tmin → (c - p.own.since) % m.tmin ≡ c - p.own.since = mod-eq_of_lt in
        let again = next_step c p.own.since m.trip m.tmin in
        grind (arith, nat_tests)
    timer_lives_kept Joins false false e f g = grind (arith, nat_tests)
    timer_lives_kept In false true e f g = grind (arith, nat_tests)
    timer_lives_kept In false false e f g = grind (arith, nat_tests)
    timer_lives_kept Leaves false true e f g = grind (arith, nat_tests)
    timer_lives_kept Leaves false false e f g = grind (arith, nat_tests)

    timer_kept_as : (st : Standing) → p.own.standing ≡ st → Kept m kind q (c + 1) r a l (times_as st c m.patience m.tmin (c + m.trip) place p)
    timer_kept_as Outside e = timer_idles_kept Outside e refl
    timer_kept_as (Live g) e = timer_lives_kept g _ _ e refl refl
    timer_kept_as (Ended how at g) e = timer_idles_kept (Ended how at g) e refl

    timer_kept : Kept m kind q (c + 1) r a l (times c m.patience m.tmin (c + m.trip) place p)
    timer_kept = timer_kept_as p.own.standing refl

pub ends_up : (r : Root) (c x : ℕ) → (runs r && eqb c x) ≡ true → (r ≡ Running) × (c ≡ x)
ends_up Running c x e = (refl, grind (arith, nat_tests))
ends_up (Down how at) c x e = absurd (grind arith)

-- what holds within a tick once the root has acted
pub record Amid (m : Terms) (kind : GroupKind) (q : Bool) (n : ℕ) (t : Table) : Type 0 where
  pub whole : Whole m kind q n t
  pub early : t.root ≡ Running → t.clock < t.start + t.length
  pub quiet : (k : ℕ) → k < n → due t.clock (get_or t.parties k nobody) ≡ false

module _ (rules : Rules) (sound : Lawful rules.meaning) where
  later_scene : (c : ℕ) (r : Root) (a l : ℕ) → Scene (M rules sound) c r a l → (r ≡ Running → c < a + l) → Scene (M rules sound) (c + 1) r a l
  later_scene c r a l s early = grind arith

  timers_keep_whole : (q : Bool) (s : State) → Amid (M rules sound) rules.plan.kind q rules.plan.n s.table → AllKept rules sound q (after_clock (after_timers (patience rules.meaning rules.plan.kind) rules.meaning.tmin (trip rules.meaning) rules.plan.n s))
  timers_keep_whole q s w =
      let t = s.table in
      record {
        scene = later_scene _ _ _ _ w.whole.scene w.early;
        each = λ k h. walks_each _ _ (λ p. KeptAt (M rules sound) rules.plan.kind (law rules sound) rules.plan.n q t p × (due t.clock p ≡ false))
            (λ p. Kept (M rules sound) rules.plan.kind q (t.clock + 1) t.root t.start t.length p)
            (λ j log p x. timer_kept (M rules sound) rules.plan.kind (law rules sound) q _ _ _ _ w.whole.scene p x.0 (length log) w.early x.1)
            1 rules.plan.n s.log t.parties nobody k h w.whole.long (w.whole.each k h, w.quiet k h);
        long = walks_long _ _ 1 rules.plan.n s.log t.parties rules.plan.n w.whole.long;
      }

  -- a round ends

  shorter_falls : (w : ℕ) (p : Party) → shorter rules.meaning.waits w p ≤ w
  shorter_falls w p = grind (arith, nat_tests)

  shorter_below : (w : ℕ) (p : Party) → (p.note.roll ≡ On) × (p.note.misses < length rules.meaning.waits) → shorter rules.meaning.waits w p ≤ get_or rules.meaning.waits p.note.misses 0
  shorter_below w p h = let e = slice_get-get_or rules.meaning.waits p.note.misses 0 h.1 in grind (arith, nat_tests)

  shorter_above : (w : ℕ) (p : Party) → p.note.misses < length rules.meaning.waits → rules.meaning.tmin ≤ w → rules.meaning.tmin ≤ shorter rules.meaning.waits w p
  shorter_above w p h low =
      let e = slice_get-get_or rules.meaning.waits p.note.misses 0 h in let f = sound.floor p.note.misses h in grind (arith, nat_tests)

  -- the party at k after the count
  counted_at : (s : State) (k : ℕ) → k < rules.plan.n → rules.plan.n ≤ length s.table.parties → get_or (after_count rules.plan.n s).table.parties k nobody ≡ missed (get_or s.table.parties k nobody)
  counted_at s k h long =
      walks_each _ _ (λ p. p ≡ get_or s.table.parties k nobody) (λ p. p ≡ missed (get_or s.table.parties k nobody)) (λ _ _ p e. ap missed e)
      1 rules.plan.n 0 s.table.parties nobody k h long refl

  module _ (q : Bool) (s : State) (w : AllKept rules sound q s) (up : s.table.root ≡ Running) (end : s.table.clock ≡ s.table.start + s.table.length)
      (quiet : (k : ℕ) → k < rules.plan.n → due s.table.clock (get_or s.table.parties k nobody) ≡ false) where
    abbrev counted : List Party
    counted = (after_count rules.plan.n s).table.parties

    counted_long : rules.plan.n ≤ length counted
    counted_long = walks_long _ _ 1 rules.plan.n 0 s.table.parties rules.plan.n w.long

    -- where no loss or crash was, no party has missed all rounds
    none_missed_all : q ≡ true → any (missed_all (length rules.meaning.waits)) rules.plan.n counted ≡ false
    none_missed_all good =
        false_any (missed_all (length rules.meaning.waits)) rules.plan.n counted nobody
        (λ k h. subst (λ p. missed_all (length rules.meaning.waits) p ≡ false) (sym (counted_at s k h w.long))
        (none_missed_all_kept (M rules sound) rules.plan.kind (law rules sound) q _ _ _ _ w.scene _ (w.each k h) good end (quiet k h)))

    stop_keeps_whole : q ≡ false → Amid (M rules sound) rules.plan.kind q rules.plan.n (after_verdict_of true rules (after_count rules.plan.n s)).table
    stop_keeps_whole bad = record {
      whole = record {
        scene = let x = w.scene in grind arith;
        each = λ k h. subst (λ p. Kept (M rules sound) rules.plan.kind q s.table.clock (Down RootStopped s.table.clock) s.table.start s.table.length p)
            (sym (counted_at s k h w.long)) (root_stop_kept (M rules sound) rules.plan.kind (law rules sound) q _ _ _ _ w.scene _ (w.each k h) up bad);
        long = counted_long;
      };
      early = λ e. absurd (grind arith);
      quiet = λ k h. subst (λ p. due s.table.clock p ≡ false) (sym (counted_at s k h w.long)) (quiet k h);
    }

    module _ (kept : any (missed_all (length rules.meaning.waits)) rules.plan.n counted ≡ false) where
      few : (k : ℕ) → k < rules.plan.n → (missed (get_or s.table.parties k nobody)).note.misses < length rules.meaning.waits
      few k h =
          missed_fewer (M rules sound) rules.plan.kind (law rules sound) q _ _ _ _ w.scene _ (w.each k h) up
          (subst (λ p. missed_all (length rules.meaning.waits) p ≡ false) (counted_at s k h w.long) (any_false (missed_all (length rules.meaning.waits)) rules.plan.n counted nobody kept k h counted_long))

      abbrev next : ℕ
      next = shortest rules.meaning.waits rules.meaning.tmax rules.plan.n counted

      next_low : rules.meaning.tmin ≤ next
      next_low =
          fold_above (shorter rules.meaning.waits) (λ p. p.note.misses < length rules.meaning.waits) rules.meaning.tmin shorter_above rules.plan.n rules.meaning.tmax counted nobody counted_long
          (λ k h. subst (λ p. p.note.misses < length rules.meaning.waits) (sym (counted_at s k h w.long)) (few k h)) sound.ordered

      next_wait : (k : ℕ) → k < rules.plan.n → (missed (get_or s.table.parties k nobody)).note.roll ≡ On → next ≤ get_or rules.meaning.waits (missed (get_or s.table.parties k nobody)).note.misses 0
      next_wait k h e =
          subst (λ p. (p.note.roll ≡ On) × (p.note.misses < length rules.meaning.waits) → next ≤ get_or rules.meaning.waits p.note.misses 0) (counted_at s k h w.long)
          (fold_below (shorter rules.meaning.waits) shorter_falls (λ p. (p.note.roll ≡ On) × (p.note.misses < length rules.meaning.waits)) (λ p. get_or rules.meaning.waits p.note.misses 0)
          shorter_below rules.plan.n rules.meaning.tmax counted nobody k h counted_long)
          (e, few k h)

      missed_roll : (p : Party) → p.note.roll ≡ On → (missed p).note.roll ≡ On
      missed_roll p e = grind arith

      next_round_keeps_whole : Amid (M rules sound) rules.plan.kind q rules.plan.n (after_verdict_of false rules (after_count rules.plan.n s)).table
      next_round_keeps_whole =
          let c = s.table.clock in
          let both : (k : ℕ) → k < rules.plan.n →
          Kept (M rules sound) rules.plan.kind q c s.table.root c next (get_or (after_verdict_of false rules (after_count rules.plan.n s)).table.parties k nobody)
          × (due c (get_or (after_verdict_of false rules (after_count rules.plan.n s)).table.parties k nobody) ≡ false) =
          λ k h. walks_each _ _ (λ p. p ≡ missed (get_or s.table.parties k nobody)) (λ p. Kept (M rules sound) rules.plan.kind q c s.table.root c next p × (due c p ≡ false))
          (λ j log p e. subst (λ x. Kept (M rules sound) rules.plan.kind q c s.table.root c next (sends (c + trip rules.meaning) (length log) x) × (due c (sends (c + trip rules.meaning) (length log) x) ≡ false)) (sym e) (
            subst (λ r. Kept (M rules sound) rules.plan.kind q c r c next (sends (c + trip rules.meaning) (length log) (missed (get_or s.table.parties k nobody)))) (sym up)
                (next_round_kept (M rules sound) rules.plan.kind (law rules sound) q _ _ _ _ w.scene _ (w.each k h) next (length log) up end (quiet k h) next_low
                (fold_falls (shorter rules.meaning.waits) shorter_falls rules.meaning.tmax (take rules.plan.n counted)) (λ e. next_wait k h (missed_roll (get_or s.table.parties k nobody) e)) (few k h)),
            send_quiet (M rules sound) rules.plan.kind (law rules sound) q _ _ _ _ w.scene _ (w.each k h) (length log) (quiet k h),
          ))
          1 rules.plan.n (after_count rules.plan.n s).log counted nobody k h counted_long (counted_at s k h w.long) in
          record {
            whole = record {
              scene = let x = w.scene in let y = next_low in let z = fold_falls (shorter rules.meaning.waits) shorter_falls rules.meaning.tmax (take rules.plan.n counted) in grind arith;
              each = λ k h. (both k h).0;
              long = walks_long _ _ 1 rules.plan.n (after_count rules.plan.n s).log counted rules.plan.n counted_long;
            };
            early = λ e. omega (arith, next_low, sound.low);
            quiet = λ k h. (both k h).1;
          }

    harmed : any (missed_all (length rules.meaning.waits)) rules.plan.n counted ≡ true → (q' : Bool) → q ≡ q' → q ≡ false
    harmed bad true e = absurd (clash _ bad (none_missed_all e))
    harmed bad false e = e

    verdict_keeps_whole : (b : Bool) → any (missed_all (length rules.meaning.waits)) rules.plan.n counted ≡ b → Amid (M rules sound) rules.plan.kind q rules.plan.n (after_verdict_of b rules (after_count rules.plan.n s)).table
    verdict_keeps_whole true e = stop_keeps_whole (harmed e q refl)
    verdict_keeps_whole false e = next_round_keeps_whole e

  module _ (q : Bool) (s : State) (w : AllKept rules sound q s) (quiet : (k : ℕ) → k < rules.plan.n → due s.table.clock (get_or s.table.parties k nobody) ≡ false) where
    not_yet : (r : Root) (c a l : ℕ) → Scene (M rules sound) c r a l → (runs r && eqb c (a + l)) ≡ false → r ≡ Running → c < a + l
    not_yet r c a l x e up = grind (arith, nat_tests)

    round_keeps_whole : (b : Bool) → round_ends s.table ≡ b → Amid (M rules sound) rules.plan.kind q rules.plan.n (after_round_if b rules s).table
    round_keeps_whole true e =
        let both = ends_up s.table.root s.table.clock (s.table.start + s.table.length) e in
        verdict_keeps_whole q s w both.0 both.1 quiet (any (missed_all (length rules.meaning.waits)) rules.plan.n (after_count rules.plan.n s).table.parties) refl
    round_keeps_whole false e = record { whole = w; early = not_yet _ _ _ _ w.scene e; quiet = quiet }

  pub tick_keeps_whole : (q : Bool) (s : State) → AllKept rules sound q s → any (due s.table.clock) rules.plan.n s.table.parties ≡ false → AllKept rules sound q (after_tick rules s)
  tick_keeps_whole q s w e =
      timers_keep_whole q (after_round rules s) (round_keeps_whole q s w (λ k h. any_false (due s.table.clock) rules.plan.n s.table.parties nobody e k h w.long) (round_ends s.table) refl)

-- the beats and the log stay together

module _ (c : ℕ) where
  silent_onward : (g : Stage) (i : ℕ) (log : List Happening) → Onward c log (tells_if (live_word true false g) c i log)
  silent_onward Joins i log = told c log _ refl refl
  silent_onward In i log = told c log _ refl refl
  silent_onward Leaves i log = told c log _ refl refl

  live_onward : (ends calls : Bool) (g : Stage) (i : ℕ) (log : List Happening) → Onward c log (tells_if (live_word ends calls g) c i log)
  live_onward true calls g i log = silent_onward g i log
  live_onward false true g i log = told c log _ refl refl
  live_onward false false g i log = stay c log

  timer_onward : (st : Standing) (patience tmin since i : ℕ) (log : List Happening) → Onward c log (timer_log st c patience tmin since i log)
  timer_onward Outside d l h i log = stay c log
  timer_onward (Live g) d l h i log = live_onward (leb d (c - h)) (calls_in g l (c - h)) g i log
  timer_onward (Ended how at g) d l h i log = stay c log

  sends_turn : (roll : Roll) (last j : ℕ) (p : Party) (log : List Happening) →
      Turned 1 j (length log) (cond (on_roll roll) (with_record c 0 Sent log) log) p (sends_as roll last (length log) p)
  sends_turn On last j p log = put_out j _ _ p _ (omega arith) (sent_push log c 0 _)
  sends_turn Off last j p log = stays j _ _ 1 p
  sends_turn StruckOff last j p log = stays j _ _ 1 p

  live_turn : (ends calls : Bool) (g : Stage) (last i : ℕ) (p : Party) (log : List Happening) →
      Turned 3 i (length log) (tells_if (live_word ends calls g) c i log) p (times_live ends calls g c last (length log) p)
  live_turn true calls g last i p log = stays i _ _ 3 p
  live_turn false true g last i p log = put_entry i _ _ p _ (omega arith) (sent_push log c i _)
  live_turn false false g last i p log = stays i _ _ 3 p

  timer_turn : (st : Standing) (d l last i : ℕ) (p : Party) (log : List Happening) →
      Turned 3 i (length log) (timer_log st c d l p.own.since i log) p (times_as st c d l last (length log) p)
  timer_turn Outside d l last i p log = stays i _ _ 3 p
  timer_turn (Live g) d l last i p log = live_turn (leb d (c - p.own.since)) (calls_in g l (c - p.own.since)) g last i p log
  timer_turn (Ended how at g) d l last i p log = stays i _ _ 3 p

module _ (o : Moment) (rules : Rules) where
  count_keeps_log : (s : State) → LogHolds o rules s → LogGoes o rules s (after_count rules.plan.n s)
  count_keeps_log s t =
      let f = λ (_ u : ℕ) (p : Party). missed p in
      let g = λ (_ u : ℕ) (_ : Party). u in
      let w = stay s.table.clock s.log in (
        moves o rules.plan.n s.table.clock 0 s.table.parties (after_count rules.plan.n s).table.parties s.log s.log (λ k x. k ≡ 0) w t (λ j k x e f. e ∙ sym f)
            (λ k leg b h e. inl (subst (λ p. on_leg leg p ≡ Some b) (walks_at f g 1 rules.plan.n 0 s.table.parties nobody k h t.long) e))
            (walks_long f g 1 rules.plan.n 0 s.table.parties rules.plan.n t.long),
        w,
      )

  start_keeps_log : (last : ℕ) (s : State) → LogHolds o rules s → LogGoes o rules s (after_sending last rules.plan.n s)
  start_keeps_log last s t =
      let c = s.table.clock in
      let grows : (j : ℕ) (log : List Happening) (p : Party) → Onward c log (send_log c log p) = λ j log p. cond_onward c (on_roll p.note.roll) _ _ (told c log _ refl refl) in (
        log_passes o rules.plan.n c 1 (λ _ log p. sends last (length log) p) (λ _ log p. send_log c log p) grows (λ j log p. sends_turn c p.note.roll last j p log) s.table.parties s.log t,
        folds_onward c (λ _ log p. send_log c log p) grows 1 rules.plan.n s.log s.table.parties,
      )

  stop_keeps_log : (s : State) → LogHolds o rules s → LogGoes o rules s (after_stop s)
  stop_keeps_log s t =
      let w = told s.table.clock s.log (happening s.table.clock 0 _ (length s.log)) refl refl in (log_idles o rules.plan.n _ s.table.parties s.log _ w t, w)

  verdict_keeps_log : (b : Bool) (s : State) → LogHolds o rules s → LogGoes o rules s (after_verdict_of b rules s)
  verdict_keeps_log true s t = stop_keeps_log s t
  verdict_keeps_log false s t = start_keeps_log (s.table.clock + trip rules.meaning) (after_start (shortest rules.meaning.waits rules.meaning.tmax rules.plan.n s.table.parties) s) t

  round_keeps_log : (b : Bool) (s : State) → LogHolds o rules s → LogGoes o rules s (after_round_if b rules s)
  round_keeps_log true s t = verdict_keeps_log (any (missed_all (length rules.meaning.waits)) rules.plan.n (after_count rules.plan.n s).table.parties) (after_count rules.plan.n s) (count_keeps_log s t).0
  round_keeps_log false s t = (t, stay s.table.clock s.log)

  timers_keep_log : (d l x : ℕ) (s : State) → LogHolds o rules s → LogGoes o rules s (after_timers d l x rules.plan.n s)
  timers_keep_log d l x s t =
      let c = s.table.clock in
      let f = λ (_ : ℕ) (log : List Happening) (p : Party). times c d l (c + x) (length log) p in
      let g = λ (i : ℕ) (log : List Happening) (p : Party). timer_log p.own.standing c d l p.own.since i log in
      let grows : (j : ℕ) (log : List Happening) (p : Party) → Onward c log (g j log p) = λ j log p. timer_onward c p.own.standing d l p.own.since j log in (
        log_passes o rules.plan.n c 3 f g grows (λ j log p. timer_turn c p.own.standing d l (c + x) j p log) s.table.parties s.log t,
        folds_onward c g grows 1 rules.plan.n s.log s.table.parties,
      )

  -- the clock gains 1
  clock_keeps_log : (c : ℕ) (ps : List Party) (log : List Happening) → Told o rules.plan.n c ps log → Told o rules.plan.n (c + 1) ps log
  clock_keeps_log c ps log t = record {
    since = t.since;
    older = t.older;
    order = record { rises = t.order.rises; none_later = λ k h. omega (arith, t.order.none_later k h) };
    linked = t.linked;
    losses = t.losses;
    once = t.once;
    carried = t.carried;
    under_way = t.under_way;
    apart = t.apart;
    long = t.long;
  }

  pub tick_keeps_log : (s : State) → LogHolds o rules s → LogNext o rules s (after_tick rules s) []
  tick_keeps_log s t =
      let a = round_keeps_log (round_ends s.table) s t in
      let b = timers_keep_log (patience rules.meaning rules.plan.kind) rules.meaning.tmin (trip rules.meaning) (after_round rules s) a.0 in
      log_quietly o rules s (after_tick rules s) (clock_keeps_log _ _ _ b.0) (b.1.same ∙ a.1.same)

-- what is written

module _ (rules : Rules) (S : ℕ → Type 0) where
  silent_grows : (g : Stage) (c i : ℕ) (log : List Happening) → i ≤ rules.plan.n → Grown (Wrote rules.plan.n c S) log (tells_if (live_word true false g) c i log)
  silent_grows Joins c i log h = grown_by_one rules S c log i _ _ h refl
  silent_grows In c i log h = grown_by_one rules S c log i _ _ h refl
  silent_grows Leaves c i log h = grown_by_one rules S c log i _ _ h refl

  live_grows : (ends calls : Bool) (g : Stage) (c i : ℕ) (log : List Happening) → i ≤ rules.plan.n → Grown (Wrote rules.plan.n c S) log (tells_if (live_word ends calls g) c i log)
  live_grows true calls g c i log h = silent_grows g c i log h
  live_grows false true g c i log h = grown_by_one rules S c log i _ _ h refl
  live_grows false false g c i log h = grown_stays _ log

  timer_grows : (st : Standing) (c d l since i : ℕ) (log : List Happening) → i ≤ rules.plan.n → Grown (Wrote rules.plan.n c S) log (timer_log st c d l since i log)
  timer_grows Outside c d l since i log h = grown_stays _ log
  timer_grows (Live g) c d l since i log h = live_grows (leb d (c - since)) (calls_in g l (c - since)) g c i log h
  timer_grows (Ended how at g) c d l since i log h = grown_stays _ log

  start_writes : (last : ℕ) (s : State) → Grown (Wrote rules.plan.n s.table.clock S) s.log (after_sending last rules.plan.n s).log
  start_writes last s =
      let c = s.table.clock in
      folds_grow (Wrote rules.plan.n c S) rules.plan.n (λ _ log p. send_log c log p)
      (λ j log p h. grown_cond _ (on_roll p.note.roll) _ _ _ (grown_by_one rules S c log 0 _ _ (omega arith) refl) (grown_stays _ log))
      1 rules.plan.n s.log s.table.parties (omega arith)

  verdict_writes : (b : Bool) (s : State) → Grown (Wrote rules.plan.n s.table.clock S) s.log (after_verdict_of b rules s).log
  verdict_writes true s = grown_by_one rules S s.table.clock s.log 0 _ _ (omega arith) refl
  verdict_writes false s = start_writes (s.table.clock + trip rules.meaning) (after_start (shortest rules.meaning.waits rules.meaning.tmax rules.plan.n s.table.parties) s)

  round_writes : (b : Bool) (s : State) → Grown (Wrote rules.plan.n s.table.clock S) s.log (after_round_if b rules s).log
  round_writes true s = verdict_writes (any (missed_all (length rules.meaning.waits)) rules.plan.n (after_count rules.plan.n s).table.parties) (after_count rules.plan.n s)
  round_writes false s = grown_stays _ s.log

  timers_write : (d l x : ℕ) (s : State) → Grown (Wrote rules.plan.n s.table.clock S) s.log (after_timers d l x rules.plan.n s).log
  timers_write d l x s =
      let c = s.table.clock in
      folds_grow (Wrote rules.plan.n c S) rules.plan.n (λ i log (p : Party). timer_log p.own.standing c d l p.own.since i log)
      (λ j log p h. timer_grows p.own.standing c d l p.own.since j log h)
      1 rules.plan.n s.log s.table.parties (omega arith)

  pub tick_writes : (s : State) → Grown (Wrote rules.plan.n s.table.clock S) s.log (after_tick rules s).log
  tick_writes s =
      let r = after_round rules s in
      let d = patience rules.meaning rules.plan.kind in
      grown_further _ _ _ _ (round_writes (round_ends s.table) s)
      (subst (λ c. Grown (Wrote rules.plan.n c S) r.log (after_timers d rules.meaning.tmin (trip rules.meaning) rules.plan.n r).log)
      (rounded_clock rules (round_ends s.table) s) (timers_write d rules.meaning.tmin (trip rules.meaning) r))

-- the log tells the group

-- a round leaves as many parties
round_keeps_parties : (b : Bool) (rules : Rules) (s : State) → rules.plan.n ≤ length s.table.parties → rules.plan.n ≤ length (after_round_if b rules s).table.parties
round_keeps_parties true rules s h = go _ (after_count rules.plan.n s)
    (walks_long (λ _ (u : ℕ) p. missed p) (λ _ (u : ℕ) _. u) 1 rules.plan.n 0 s.table.parties rules.plan.n h)
  where
    go : (b : Bool) (s : State) → rules.plan.n ≤ length s.table.parties → rules.plan.n ≤ length (after_verdict_of b rules s).table.parties
    go true s h = h
    go false s h = walks_long _ _ 1 rules.plan.n s.log s.table.parties rules.plan.n h
round_keeps_parties false rules s h = h

module _ (rules : Rules) (i : ℕ) (lo : 1 ≤ i) (hi : i ≤ rules.plan.n) where
  missed_told : (p : Party) → account_of (missed p) ≡ account_of p
  missed_told p = grind arith

  sends_told : (last place : ℕ) (p : Party) → account_of (sends last place p) ≡ account_of p
  sends_told last place p = grind arith

  count_tells_party : (s : State) → rules.plan.n ≤ length s.table.parties → TellsParty rules i lo hi s → TellsParty rules i lo hi (after_count rules.plan.n s)
  count_tells_party s long e =
      walks_each _ _ (λ p. account_in rules.plan.kind i s.log ≡ account_of p) (λ p. account_in rules.plan.kind i s.log ≡ account_of p) (λ j (u : ℕ) p h. h ∙ sym (missed_told p))
      1 rules.plan.n 0 s.table.parties nobody (i - 1) (omega arith) (omega arith) e

  start_tells_party : (last : ℕ) (s : State) → rules.plan.n ≤ length s.table.parties → TellsParty rules i lo hi s → TellsParty rules i lo hi (after_sending last rules.plan.n s)
  start_tells_party last s long e =
      let c = s.table.clock in
      let quiet = λ (log : List Happening) (p : Party). account_cond rules i lo hi (on_roll p.note.roll) _ _ _ (account_idle rules i lo hi log (happening c 0 Sent (length log)) (λ a. refl)) refl in
      account_passes rules i lo hi (λ _ log p. sends last (length log) p) (λ _ log p. send_log c log p)
      (λ j log p there. quiet log p) (λ j log p here f. quiet log p ∙ f ∙ sym (sends_told last (length log) p))
      1 rules.plan.n s.log s.table.parties (i - 1) (omega arith) (omega arith) (omega arith) e

  verdict_tells_party : (b : Bool) (s : State) → rules.plan.n ≤ length s.table.parties → TellsParty rules i lo hi s → TellsParty rules i lo hi (after_verdict_of b rules s)
  verdict_tells_party true s long e = account_other rules i lo hi s.log (happening s.table.clock 0 HasStopped (length s.log)) (λ z. absurd (omega arith)) ∙ e
  verdict_tells_party false s long e = start_tells_party (s.table.clock + trip rules.meaning) (after_start (shortest rules.meaning.waits rules.meaning.tmax rules.plan.n s.table.parties) s) long e

  round_tells_party : (b : Bool) (s : State) → rules.plan.n ≤ length s.table.parties → TellsParty rules i lo hi s → TellsParty rules i lo hi (after_round_if b rules s)
  round_tells_party true s long e =
      verdict_tells_party (any (missed_all (length rules.meaning.waits)) rules.plan.n (after_count rules.plan.n s).table.parties) (after_count rules.plan.n s)
      (walks_long (λ _ (u : ℕ) p. missed p) (λ _ (u : ℕ) _. u) 1 rules.plan.n 0 s.table.parties rules.plan.n long) (count_tells_party s long e)
  round_tells_party false s long e = e

  timer_there : (w : Option HappeningKind) (c j : ℕ) (log : List Happening) → (j ≡ i → ⊥) → account_in rules.plan.kind i (tells_if w c j log) ≡ account_in rules.plan.kind i log
  timer_there None c j log h = refl
  timer_there (Some w) c j log h = account_other rules i lo hi log _ h

  live_here : (ends calls : Bool) (g : Stage) (c last place j : ℕ) (log : List Happening) (p : Party) → j ≡ i → p.own.standing ≡ Live g →
      account_in rules.plan.kind i log ≡ account_of p → account_in rules.plan.kind i (tells_if (live_word ends calls g) c j log) ≡ account_of (times_live ends calls g c last place p)
  live_here true calls Joins c last place j log p h is e = let f = account_mine rules i lo hi log (happening c j HasStopped (length log)) h in grind arith
  live_here true calls In c last place j log p h is e = let f = account_mine rules i lo hi log (happening c j HasStopped (length log)) h in grind arith
  live_here true calls Leaves c last place j log p h is e = let f = account_mine rules i lo hi log (happening c j HasLeft (length log)) h in grind arith
  live_here false true g c last place j log p h is e = account_idle rules i lo hi log (happening c j Sent (length log)) (λ a. refl) ∙ e
  live_here false false g c last place j log p h is e = e

  timer_here : (st : Standing) (c d l last place j : ℕ) (log : List Happening) (p : Party) → j ≡ i → p.own.standing ≡ st →
      account_in rules.plan.kind i log ≡ account_of p → account_in rules.plan.kind i (timer_log st c d l p.own.since j log) ≡ account_of (times_as st c d l last place p)
  timer_here Outside c d l last place j log p h is e = e
  timer_here (Live g) c d l last place j log p h is e = live_here (leb d (c - p.own.since)) (calls_in g l (c - p.own.since)) g c last place j log p h is e
  timer_here (Ended how at g) c d l last place j log p h is e = e

  timers_tell_party : (d l x : ℕ) (s : State) → rules.plan.n ≤ length s.table.parties → TellsParty rules i lo hi s → TellsParty rules i lo hi (after_timers d l x rules.plan.n s)
  timers_tell_party d l x s long e =
      let c = s.table.clock in
      account_passes rules i lo hi (λ _ log p. times c d l (c + x) (length log) p) (λ j log p. timer_log p.own.standing c d l p.own.since j log)
      (λ j log p there. timer_there _ c j log there)
      (λ j log p here f. timer_here p.own.standing c d l (c + x) (length log) j log p here refl f)
      1 rules.plan.n s.log s.table.parties (i - 1) (omega arith) (omega arith) (omega arith) e

  pub tick_tells_party : (s : State) → rules.plan.n ≤ length s.table.parties → TellsParty rules i lo hi s → TellsParty rules i lo hi (after_tick rules s)
  tick_tells_party s long e =
      let ends = round_ends s.table in
      timers_tell_party (patience rules.meaning rules.plan.kind) rules.meaning.tmin (trip rules.meaning) (after_round rules s)
      (round_keeps_parties ends rules s long) (round_tells_party ends s long e)

start_tells_root : (last n : ℕ) (s : State) → TellsRoot s → TellsRoot (after_sending last n s)
start_tells_root last n s e =
    let c = s.table.clock in
    passed_over n s.log s.table.parties (λ _ log p. send_log c log p)
    (λ _ log p. root_conds (on_roll p.note.roll) _ _ _ (root_idle log (happening c 0 Sent (length log)) (λ r. refl)) refl) 1 ∙ e
  where
    passed_over : (n : ℕ) (log : List Happening) (ps : List Party) (g : ℕ → List Happening → Party → List Happening) →
        ((j : ℕ) (log : List Happening) (p : Party) → root_in (g j log p) ≡ root_in log) → (j : ℕ) → root_in (folds g j n log ps) ≡ root_in log
    passed_over zero log ps g same j = refl
    passed_over (suc n) log [] g same j = refl
    passed_over (suc n) log (p ∷ ps) g same j = passed_over n (g j log p) ps g same (suc j) ∙ same j log p

verdict_tells_root : (b : Bool) (rules : Rules) (s : State) → TellsRoot s → TellsRoot (after_verdict_of b rules s)
verdict_tells_root true rules s e = read_mine root_step 0 Running s.log (happening s.table.clock 0 HasStopped (length s.log)) refl
verdict_tells_root false rules s e = start_tells_root (s.table.clock + trip rules.meaning) rules.plan.n
    (after_start (shortest rules.meaning.waits rules.meaning.tmax rules.plan.n s.table.parties) s) e

round_tells_root : (b : Bool) (rules : Rules) (s : State) → TellsRoot s → TellsRoot (after_round_if b rules s)
round_tells_root true rules s e = verdict_tells_root _ rules (after_count rules.plan.n s) e
round_tells_root false rules s e = e

root_word : (w : Option HappeningKind) (c j : ℕ) (log : List Happening) → 1 ≤ j → root_in (tells_if w c j log) ≡ root_in log
root_word None c j log h = refl
root_word (Some w) c j log h = root_other log (happening c j w (length log)) h

timers_tell_root : (d l x n : ℕ) (s : State) → TellsRoot s → TellsRoot (after_timers d l x n s)
timers_tell_root d l x n s e =
    read_past root_step 0 Running (λ j log (p : Party). timer_log p.own.standing s.table.clock d l p.own.since j log)
    (λ j log p past. root_word _ s.table.clock j log (omega arith)) 1 n s.log s.table.parties (omega arith)
    ∙ e

pub tick_tells_root : (rules : Rules) (s : State) → TellsRoot s → TellsRoot (after_tick rules s)
tick_tells_root rules s e =
    timers_tell_root (patience rules.meaning rules.plan.kind) rules.meaning.tmin (trip rules.meaning) rules.plan.n (after_round rules s)
    (round_tells_root (round_ends s.table) rules s e)

pub tick_keeps_parties : (rules : Rules) (s : State) → rules.plan.n ≤ length s.table.parties → rules.plan.n ≤ length (after_tick rules s).table.parties
tick_keeps_parties rules s h =
    walks_long _ _ 1 rules.plan.n (after_round rules s).log (after_round rules s).table.parties rules.plan.n (round_keeps_parties (round_ends s.table) rules s h)

-- no beat vanishes

module _ (G : ℕ → Type 0) where
  send_beside : (roll : Roll) (c last : ℕ) (log : List Happening) (p : Party) → (roll ≡ On → p.legs.out ≡ None) → Beside G log p →
      Beside G (cond (on_roll roll) (with_record c 0 Sent log) log) (sends_as roll last (length log) p)
  send_beside On c last log p free a =
      let d = beat last false (length log) in
      beside_puts G p (sends_as On last (length log) p) 1 d log (happening c 0 Sent (length log)) (keeps_out p d (free refl)) refl refl a
  send_beside Off c last log p free a = a
  send_beside StruckOff c last log p free a = a

  silent_beside : (g : Stage) (c j : ℕ) (log : List Happening) (p : Party) → Beside G log p → Beside G (tells_if (live_word true false g) c j log) p
  silent_beside Joins c j log p a = beside_tells G p log (happening c j HasStopped (length log)) (λ is. absurd (grind arith)) a
  silent_beside In c j log p a = beside_tells G p log (happening c j HasStopped (length log)) (λ is. absurd (grind arith)) a
  silent_beside Leaves c j log p a = beside_tells G p log (happening c j HasLeft (length log)) (λ is. absurd (grind arith)) a

  time_live_beside : (ends calls : Bool) (g : Stage) (c last j : ℕ) (log : List Happening) (p : Party) → (calls ≡ true → p.legs.entry ≡ None) → Beside G log p →
      Beside G (tells_if (live_word ends calls g) c j log) (times_live ends calls g c last (length log) p)
  time_live_beside true calls g c last j log p free a =
      beside_stays G p (times_live true calls g c last (length log) p) _ (λ leg b e. e) (silent_beside g c j log p a)
  time_live_beside false true g c last j log p free a =
      let d = beat last false (length log) in
      beside_puts G p (with_entry d p) 3 d log (happening c j Sent (length log)) (keeps_entry p d (free refl)) refl refl a
  time_live_beside false false g c last j log p free a = a

  time_beside : (st : Standing) (c d l last j : ℕ) (log : List Happening) (p : Party) →
      ((g : Stage) → st ≡ Live g → calls_in g l (c - p.own.since) ≡ true → p.legs.entry ≡ None) → Beside G log p →
      Beside G (timer_log st c d l p.own.since j log) (times_as st c d l last (length log) p)
  time_beside Outside c d l last j log p free a = a
  time_beside (Live g) c d l last j log p free a = time_live_beside (leb d (c - p.own.since)) (calls_in g l (c - p.own.since)) g c last j log p (free g refl) a
  time_beside (Ended how e g) c d l last j log p free a = a

-- the legs on which a tick puts beats are free: the root's at the end of a round,
-- the party's when it calls again

abbrev FreeOut : Party → Type 0
FreeOut p = p.note.roll ≡ On → p.legs.out ≡ None

abbrev FreeEntry : ℕ → ℕ → Party → Type 0
FreeEntry c tmin p = p.own.standing ≡ Live Joins → p.own.since < c → (c - p.own.since) % tmin ≡ 0 → p.legs.entry ≡ None

missed_out : (p : Party) → FreeOut p → FreeOut (missed p)
missed_out p f e = f (grind arith)

sends_entry : (roll : Roll) (c tmin last place : ℕ) (p : Party) → FreeEntry c tmin p → FreeEntry c tmin (sends_as roll last place p)
sends_entry On c tmin last place p f = f
sends_entry Off c tmin last place p f = f
sends_entry StruckOff c tmin last place p f = f

calls_free : (g : Stage) (c tmin : ℕ) (p : Party) → FreeEntry c tmin p → p.own.standing ≡ Live g → calls_in g tmin (c - p.own.since) ≡ true → p.legs.entry ≡ None
calls_free Joins c tmin p f is calls = f is (grind (arith, nat_tests)) (grind (arith, nat_tests))
calls_free In c tmin p f is calls = absurd (grind arith)
calls_free Leaves c tmin p f is calls = absurd (grind arith)

module _ (rules : Rules) where
  count_accounts : (s : State) → rules.plan.n ≤ length s.table.parties → AllAccounted rules s → AllAccounted rules (after_count rules.plan.n s)
  count_accounts s long =
      weaken_accounted s.log (HasOne rules.plan.n s.table.parties) (HasOne rules.plan.n (after_count rules.plan.n s).table.parties)
      (λ k h. record {
        at = h.at;
        below = h.below;
        has = walks_each _ _ (λ p. Has p k) (λ p. Has p k) (λ _ (u : ℕ) p x. record { leg = x.leg; beat = x.beat; stands = x.stands; sent_there = x.sent_there })
            1 rules.plan.n 0 s.table.parties nobody h.at h.below long h.has;
      })

  start_accounts : (last : ℕ) (s : State) → ((k : ℕ) → k < rules.plan.n → FreeOut (get_or s.table.parties k nobody)) → AllAccounted rules s → AllAccounted rules (after_sending last rules.plan.n s)
  start_accounts last s free a =
      beats_pass FreeOut (λ _ log p. sends last (length log) p) (λ _ log p. send_log s.table.clock log p)
      (λ G j log p f b. send_beside G p.note.roll s.table.clock last log p f b) rules.plan.n s.log s.table.parties free a

  verdict_accounts : (b : Bool) (s : State) → ((k : ℕ) → k < rules.plan.n → FreeOut (get_or s.table.parties k nobody)) → AllAccounted rules s → AllAccounted rules (after_verdict_of b rules s)
  verdict_accounts true s free a = beats_tell_root rules s (happening s.table.clock 0 HasStopped (length s.log)) (λ is. absurd (grind arith)) a
  verdict_accounts false s free a = start_accounts (s.table.clock + trip rules.meaning) (after_start (shortest rules.meaning.waits rules.meaning.tmax rules.plan.n s.table.parties) s) free a

  round_accounts : (b : Bool) (s : State) → rules.plan.n ≤ length s.table.parties → (b ≡ true → (k : ℕ) → k < rules.plan.n → FreeOut (get_or s.table.parties k nobody)) → AllAccounted rules s → AllAccounted rules (after_round_if b rules s)
  round_accounts true s long free a =
      verdict_accounts (any (missed_all (length rules.meaning.waits)) rules.plan.n (after_count rules.plan.n s).table.parties) (after_count rules.plan.n s)
      (λ k h. walks_each _ _ FreeOut FreeOut (λ _ (u : ℕ) p f. missed_out p f) 1 rules.plan.n 0 s.table.parties nobody k h long (free refl k h))
      (count_accounts s long a)
  round_accounts false s long free a = a

  -- what a round leaves as it was
  verdict_keeps_entry : (b : Bool) (c : ℕ) (s : State) → rules.plan.n ≤ length s.table.parties → ((k : ℕ) → k < rules.plan.n → FreeEntry c rules.meaning.tmin (get_or s.table.parties k nobody)) →
      (k : ℕ) → k < rules.plan.n → FreeEntry c rules.meaning.tmin (get_or (after_verdict_of b rules s).table.parties k nobody)
  verdict_keeps_entry true c s long free k h = free k h
  verdict_keeps_entry false c s long free k h =
      walks_each _ _ (FreeEntry c rules.meaning.tmin) (FreeEntry c rules.meaning.tmin) (λ _ log p f. sends_entry p.note.roll c rules.meaning.tmin _ (length log) p f)
      1 rules.plan.n s.log s.table.parties nobody k h long (free k h)

  round_keeps_entry : (b : Bool) (c : ℕ) (s : State) → rules.plan.n ≤ length s.table.parties → ((k : ℕ) → k < rules.plan.n → FreeEntry c rules.meaning.tmin (get_or s.table.parties k nobody)) →
      (k : ℕ) → k < rules.plan.n → FreeEntry c rules.meaning.tmin (get_or (after_round_if b rules s).table.parties k nobody)
  round_keeps_entry true c s long free k h =
      verdict_keeps_entry (any (missed_all (length rules.meaning.waits)) rules.plan.n (after_count rules.plan.n s).table.parties) c (after_count rules.plan.n s)
      (walks_long (λ _ (u : ℕ) p. missed p) (λ _ (u : ℕ) _. u) 1 rules.plan.n 0 s.table.parties rules.plan.n long)
      (λ k h. walks_each _ _ (FreeEntry c rules.meaning.tmin) (FreeEntry c rules.meaning.tmin) (λ _ (u : ℕ) p f. f) 1 rules.plan.n 0 s.table.parties nobody k h long (free k h))
      k h
  round_keeps_entry false c s long free k h = free k h

  timers_account : (d l x : ℕ) (s : State) → ((k : ℕ) → k < rules.plan.n → FreeEntry s.table.clock l (get_or s.table.parties k nobody)) → AllAccounted rules s → AllAccounted rules (after_timers d l x rules.plan.n s)
  timers_account d l x s free a =
      let c = s.table.clock in
      beats_pass (FreeEntry c l) (λ _ log p. times c d l (c + x) (length log) p) (λ j log p. timer_log p.own.standing c d l p.own.since j log)
      (λ G j log p f b. time_beside G p.own.standing c d l (c + x) j log p (λ g is calls. calls_free g c l p f is calls) b) rules.plan.n s.log s.table.parties free a

  pub tick_accounts : (s : State) → FreeFor rules Tick s → rules.plan.n ≤ length s.table.parties → AllAccounted rules s → AllAccounted rules (after_tick rules s)
  tick_accounts s free long a =
      let ends = round_ends s.table in
      let f = λ (k : ℕ) (h : k < rules.plan.n). free (k + 1) (omega arith) (omega arith) in
      timers_account (patience rules.meaning rules.plan.kind) rules.meaning.tmin (trip rules.meaning) (after_round rules s)
      (λ k h. subst (λ c. FreeEntry c rules.meaning.tmin (get_or (after_round rules s).table.parties k nobody)) (sym (rounded_clock rules ends s))
      (round_keeps_entry ends s.table.clock s long (λ k h. subst (λ j. FreeEntry s.table.clock rules.meaning.tmin (get_or s.table.parties j nobody)) (omega arith) (f k h).1) k h))
      (round_accounts ends s long (λ is k h. subst (λ j. FreeOut (get_or s.table.parties j nobody)) (omega arith) ((f k h).0 is)) a)

-- a struck party stays struck

missed_struck : (p : Party) → HasStruck p → HasStruck (missed p)
missed_struck p e = grind arith

sends_struck : (last place : ℕ) (p : Party) → HasStruck p → HasStruck (sends last place p)
sends_struck last place p e = grind arith

times_struck : (c d l last place : ℕ) (p : Party) → HasStruck p → HasStruck (times c d l last place p)
times_struck c d l last place p e = grind arith

module _ (i : ℕ) where
  count_keeps_struck : (n : ℕ) (s : State) → IsStruck i s → IsStruck i (after_count n s)
  count_keeps_struck n s e = walks_keep _ _ HasStruck (λ _ (u : ℕ) p. missed_struck p) 1 n 0 s.table.parties nobody (i - 1) e

  start_keeps_struck : (last n : ℕ) (s : State) → IsStruck i s → IsStruck i (after_sending last n s)
  start_keeps_struck last n s e = walks_keep _ _ HasStruck (λ _ log p. sends_struck last (length log) p) 1 n s.log s.table.parties nobody (i - 1) e

  verdict_keeps_struck : (b : Bool) (rules : Rules) (s : State) → IsStruck i s → IsStruck i (after_verdict_of b rules s)
  verdict_keeps_struck true rules s e = e
  verdict_keeps_struck false rules s e = start_keeps_struck _ rules.plan.n
      (after_start (shortest rules.meaning.waits rules.meaning.tmax rules.plan.n s.table.parties) s) e

  round_keeps_struck : (b : Bool) (rules : Rules) (s : State) → IsStruck i s → IsStruck i (after_round_if b rules s)
  round_keeps_struck true rules s e = verdict_keeps_struck _ rules (after_count rules.plan.n s) (count_keeps_struck rules.plan.n s e)
  round_keeps_struck false rules s e = e

  timers_keep_struck : (d l x n : ℕ) (s : State) → IsStruck i s → IsStruck i (after_timers d l x n s)
  timers_keep_struck d l x n s e =
      walks_keep _ _ HasStruck (λ _ log p. times_struck s.table.clock d l (s.table.clock + x) (length log) p) 1 n s.log s.table.parties nobody (i - 1) e

  pub tick_keeps_struck : (rules : Rules) (s : State) → IsStruck i s → IsStruck i (after_tick rules s)
  tick_keeps_struck rules s e = timers_keep_struck _ _ _ rules.plan.n (after_round rules s) (round_keeps_struck (round_ends s.table) rules s e)

-- what is put on the legs

-- each beat on a leg stood there before, or has that last tick
abbrev pub Fresh : Party → ℕ → Party → Type 0
Fresh p₀ last p = (leg : ℕ) (b : Beat) → on_leg leg p ≡ Some b → (on_leg leg p₀ ≡ Some b) ⊎ (b.last ≡ last)

last_of : (d b : Beat) → Some d ≡ Some b → b.last ≡ d.last
last_of d b e = ap (λ o. (unwrap_or o d).last) (sym e)

sends_fresh : (roll : Roll) (p₀ : Party) (last place : ℕ) (p : Party) → Fresh p₀ last p → Fresh p₀ last (sends_as roll last place p)
sends_fresh Off p₀ last place p f leg b e = f leg b e
sends_fresh StruckOff p₀ last place p f leg b e = f leg b e
sends_fresh On p₀ last place p f leg b e = go (eqb leg 1) e (f leg b)
  where
    go : (x : Bool) → cond x (Some (beat last false place)) (cond (eqb leg 2) p.legs.reply (cond (eqb leg 3) p.legs.entry None)) ≡ Some b →
        (cond x p.legs.out (cond (eqb leg 2) p.legs.reply (cond (eqb leg 3) p.legs.entry None)) ≡ Some b → (on_leg leg p₀ ≡ Some b) ⊎ (b.last ≡ last)) →
        (on_leg leg p₀ ≡ Some b) ⊎ (b.last ≡ last)
    go true e old = inr (last_of (beat last false place) b e)
    go false e old = old e

live_fresh : (ends calls : Bool) (g : Stage) (p₀ : Party) (c last place : ℕ) (p : Party) → Fresh p₀ last p → Fresh p₀ last (times_live ends calls g c last place p)
live_fresh true calls g p₀ c last place p f leg b e = f leg b e
live_fresh false false g p₀ c last place p f leg b e = f leg b e
live_fresh false true g p₀ c last place p f leg b e = go (eqb leg 1) (eqb leg 2) (eqb leg 3) e (f leg b)
  where
    go : (x y z : Bool) → cond x p.legs.out (cond y p.legs.reply (cond z (Some (beat last false place)) None)) ≡ Some b →
        (cond x p.legs.out (cond y p.legs.reply (cond z p.legs.entry None)) ≡ Some b → (on_leg leg p₀ ≡ Some b) ⊎ (b.last ≡ last)) →
        (on_leg leg p₀ ≡ Some b) ⊎ (b.last ≡ last)
    go true y z e old = old e
    go false true z e old = old e
    go false false true e old = inr (last_of (beat last false place) b e)
    go false false false e old = old e

times_fresh : (st : Standing) (p₀ : Party) (c d l last place : ℕ) (p : Party) → Fresh p₀ last p → Fresh p₀ last (times_as st c d l last place p)
times_fresh Outside p₀ c d l last place p f = f
times_fresh (Live g) p₀ c d l last place p f = live_fresh (leb d (c - p.own.since)) (calls_in g l (c - p.own.since)) g p₀ c last place p f
times_fresh (Ended how e g) p₀ c d l last place p f = f

module _ (rules : Rules) (k : ℕ) (h : k < rules.plan.n) (p₀ : Party) (c : ℕ) where
  abbrev FreshAt : State → Type 0
  FreshAt s = Fresh p₀ (c + trip rules.meaning) (get_or s.table.parties k nobody)

  count_puts : (s : State) → rules.plan.n ≤ length s.table.parties → FreshAt s → FreshAt (after_count rules.plan.n s)
  count_puts s long f = walks_each _ _ (Fresh p₀ (c + trip rules.meaning)) (Fresh p₀ (c + trip rules.meaning)) (λ _ (u : ℕ) p f. f) 1 rules.plan.n 0 s.table.parties nobody k h long f

  verdict_puts : (b : Bool) (s : State) → s.table.clock ≡ c → rules.plan.n ≤ length s.table.parties → FreshAt s → FreshAt (after_verdict_of b rules s)
  verdict_puts true s e long f = f
  verdict_puts false s e long f =
      walks_each _ _ (Fresh p₀ (c + trip rules.meaning)) (Fresh p₀ (c + trip rules.meaning))
      (λ _ log p f. subst (λ x. Fresh p₀ (c + trip rules.meaning) (sends (x + trip rules.meaning) (length log) p)) (sym e) (sends_fresh p.note.roll p₀ (c + trip rules.meaning) (length log) p f))
      1 rules.plan.n s.log s.table.parties nobody k h long f

  round_puts : (b : Bool) (s : State) → s.table.clock ≡ c → rules.plan.n ≤ length s.table.parties → FreshAt s → FreshAt (after_round_if b rules s)
  round_puts true s e long f =
      verdict_puts (any (missed_all (length rules.meaning.waits)) rules.plan.n (after_count rules.plan.n s).table.parties) (after_count rules.plan.n s) e
      (walks_long (λ _ (u : ℕ) p. missed p) (λ _ (u : ℕ) _. u) 1 rules.plan.n 0 s.table.parties rules.plan.n long) (count_puts s long f)
  round_puts false s e long f = f

  timers_put : (d l : ℕ) (s : State) → s.table.clock ≡ c → rules.plan.n ≤ length s.table.parties → FreshAt s → FreshAt (after_timers d l (trip rules.meaning) rules.plan.n s)
  timers_put d l s e long f =
      walks_each _ _ (Fresh p₀ (c + trip rules.meaning)) (Fresh p₀ (c + trip rules.meaning))
      (λ _ log p f. subst (λ x. Fresh p₀ (c + trip rules.meaning) (times x d l (x + trip rules.meaning) (length log) p)) (sym e) (times_fresh p.own.standing p₀ c d l (c + trip rules.meaning) (length log) p f))
      1 rules.plan.n s.log s.table.parties nobody k h long f

-- each beat on a leg after a tick stood there before, or may be under way for a trip from the tick on
pub tick_puts : (rules : Rules) (k : ℕ) → k < rules.plan.n → (s : State) → rules.plan.n ≤ length s.table.parties →
    Fresh (get_or s.table.parties k nobody) (s.table.clock + trip rules.meaning) (get_or (after_tick rules s).table.parties k nobody)
tick_puts rules k h s long =
    let ends = round_ends s.table in
    let p₀ = get_or s.table.parties k nobody in
    timers_put rules k h p₀ s.table.clock (patience rules.meaning rules.plan.kind) rules.meaning.tmin (after_round rules s) (rounded_clock rules ends s)
    (round_keeps_parties ends rules s long) (round_puts rules k h p₀ s.table.clock ends s refl long (λ leg b e. inl e))
