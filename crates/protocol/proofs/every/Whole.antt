-- Every call keeps a group whole, and so every run does.
use Rattle.std.proofs.Common.{Bool, List, None, Option, Some, [], ap, arith, false, not, refl, subst, suc, sym, true, ℕ, ◌&&◌, ◌++◌, ◌+◌, ◌-◌, ◌∙◌, ◌∷◌, ◌≡◌, ◌≤◌}
use lib.ListN.{get_or-replicate}
use Rattle.std.specs.Prelude.{is_some}
use Rattle.pace.specs.Meaning.{Lawful}
use Rattle.protocol.specs.declared.party.Beat.{Beat}
use Rattle.protocol.specs.declared.party.Stage.TheVariants.{In}
use Rattle.protocol.specs.declared.party.Standing.{Standing}
use Rattle.protocol.specs.declared.party.Standing.TheVariants.{Live, Outside}
use Rattle.protocol.specs.declared.party.Roll.TheVariants.{Struck}
use Rattle.protocol.specs.declared.table.Root.TheVariants.{Running}
use Rattle.protocol.specs.declared.kind.GroupKind.{GroupKind}
use Rattle.protocol.specs.declared.kind.GroupKind.TheVariants.{Closed}
use Rattle.protocol.specs.declared.call.Call.{Call}
use Rattle.protocol.specs.declared.call.Call.TheVariants.{Crash, Deliver, Join, Leave, Lose, Tick}
use Rattle.protocol.specs.Rules.{Rules, trip}
use Rattle.protocol.specs.Party.{fresh, nobody, on_leg}
use Rattle.protocol.specs.calls.Tick.{after_tick, due}
use Rattle.protocol.specs.State.{State, opening, the}
use Rattle.protocol.specs.calls.Deliver.{after_delivery}
use Rattle.protocol.specs.calls.Lose.{after_loss}
use Rattle.protocol.specs.calls.Crash.{after_crash}
use Rattle.protocol.specs.calls.Join.{after_join, is_outside, may_join}
use Rattle.protocol.specs.calls.Leave.{after_leave, is_in, may_leave}
use Rattle.protocol.specs.Runs.{effect, number, numbers, perform, run_state, spares, state_after, unharmed}
use Rattle.protocol.specs.Questions.{asks, is_party, log_asks}
use Rattle.protocol.specs.Beats.{FreeFor}
use Rattle.protocol.specs.Kept.{Kept, terms}
use Rattle.protocol.proofs.Runs.{every_run}
use Rattle.protocol.proofs.Asked.{asked_beat, asked_party}
use Rattle.protocol.proofs.Lifts.{any_false}
use Rattle.protocol.proofs.Kept.{no_beat_to_struck, open_kept, party_last_ticks}
use Rattle.protocol.proofs.Whole.{AllKept, clash, harm_whole, law, weaken_whole}
use Rattle.protocol.proofs.calls.Deliver.{delivery_keeps_whole, free_reply}
use Rattle.protocol.proofs.calls.Lose.{loss_keeps_whole}
use Rattle.protocol.proofs.calls.Crash.{crash_keeps_whole}
use Rattle.protocol.proofs.calls.Join.{free_entry_outside, join_keeps_whole}
use Rattle.protocol.proofs.calls.Leave.{leave_keeps_whole}
use Rattle.protocol.proofs.calls.Tick.{ends_up, free_entry, free_out, tick_keeps_whole}

module _ (rules : Rules) (sound : Lawful rules.meaning) where
  abbrev Fine : Bool → State → Type 0
  Fine q s = AllKept rules sound q s

  asked_due : (a b : Bool) (x : ℕ) → asks a 10 (asks (not b) 11 x) ≡ 0 → b ≡ false
  asked_due a b x e = grind arith

  asked_wide : (a b c : Bool) (x : ℕ) → asks a 6 (asks b 7 (asks c 8 x)) ≡ 0 → (b ≡ true) × (c ≡ true)
  asked_wide a b c x e = grind arith

  wide_join : (k : GroupKind) → may_join k ≡ true → k ≡ Closed → ⊥
  wide_join k e f = grind arith

  wide_leave : (k : GroupKind) → may_leave k ≡ true → k ≡ Closed → ⊥
  wide_leave k e f = grind arith

  outside : (x : Standing) → is_outside x ≡ true → x ≡ Outside
  outside x e = grind arith

  inside : (x : Standing) → is_in x ≡ true → x ≡ Live In
  inside x e = grind arith

  call_keeps_whole : (q : Bool) (call : Call) (s : State) → number rules call s ≡ 0 → Fine q s → Fine (q && spares call 0) (effect rules call s)
  call_keeps_whole q Tick s e w = weaken_whole rules sound q true (after_tick rules s) (tick_keeps_whole rules sound q s w (asked_due _ _ _ e))
  call_keeps_whole q (Deliver i leg) s e w = weaken_whole rules sound q true (after_delivery i leg s) (delivery_keeps_whole _ _ (law rules sound) _ q _ i leg s refl w)
  call_keeps_whole q (Lose i leg) s e w = harm_whole rules sound q (after_loss i leg s) (loss_keeps_whole _ _ (law rules sound) _ q (on_leg leg (the i s.table)) i leg s w)
  call_keeps_whole q (Crash i) s e w = harm_whole rules sound q (after_crash i s) (crash_keeps_whole _ _ (law rules sound) _ q i s w)
  call_keeps_whole q (Join i) s e w =
      let a = asked_wide _ _ _ _ e in
      weaken_whole rules sound q true (after_join (trip rules.meaning) i s) (join_keeps_whole _ _ (law rules sound) _ q i s (wide_join _ a.0) (outside _ a.1) w)
  call_keeps_whole q (Leave i) s e w =
      let a = asked_wide _ _ _ _ e in
      weaken_whole rules sound q true (after_leave i s) (leave_keeps_whole _ _ (law rules sound) _ q i s (wide_leave _ a.0) (inside _ a.1) w)

  and_more : (a b c x : Bool) → b ≡ (c && x) → (a && b) ≡ ((a && c) && x)
  and_more true b c x e = e
  and_more false b c x e = refl

  and_true : (b : Bool) → (b && true) ≡ b
  and_true true = refl
  and_true false = refl

  unharmed_more : (calls : List Call) (call : Call) (s : State) →
      unharmed (calls ++ call ∷ []) (numbers rules (calls ++ call ∷ []) s)
      ≡ (unharmed calls (numbers rules calls s) && spares call (number rules call (state_after rules calls s)))
  unharmed_more [] call s = and_true (spares call (number rules call s))
  unharmed_more (x ∷ calls) call s =
      and_more (spares x (number rules x s)) _ (unharmed calls (numbers rules calls (perform rules x s))) _ (unharmed_more calls call (perform rules x s))

  opens : (q : Bool) → Fine q (opening rules)
  opens q = record {
    scene = let a = sound.low in let b = sound.ordered in omega arith;
    each = λ k h. subst (λ p. Kept (terms rules.meaning rules.plan.kind) rules.plan.kind q 0 Running 0 rules.meaning.tmax p)
        (sym (get_or-replicate 32 k (fresh rules.plan.kind) nobody (omega (arith, rules.plan.few))))
        (open_kept (terms rules.meaning rules.plan.kind) rules.plan.kind (law rules sound) q);
    long = omega (arith, rules.plan.few);
  }

  abbrev so_far : List Call → Bool
  so_far calls = unharmed calls (numbers rules calls (opening rules))

  more : (before : List Call) (call : Call) (k : ℕ) → number rules call (run_state rules before) ≡ k → (so_far before && spares call k) ≡ so_far (before ++ call ∷ [])
  more before call k z = ap (λ k. so_far before && spares call k) (sym z) ∙ sym (unharmed_more before call (opening rules))

  -- what holds of every run, of which is said whether each loss and crash was refused
  pub run_whole : (calls : List Call) → Fine (so_far calls) (run_state rules calls)
  run_whole =
      every_run rules (opening rules) (λ calls s. Fine (so_far calls) s)
      (λ before call z w. subst (λ q. Fine q (effect rules call (run_state rules before))) (more before call 0 z) (call_keeps_whole (so_far before) call (run_state rules before) z w))
      (λ before call k z w. subst (λ q. Fine q (run_state rules before)) (more before call (suc k) z)
      (weaken_whole rules sound (so_far before) (spares call (suc k)) (run_state rules before) w))
      (opens true)

  -- the legs that a call puts beats on are free

  frees : (q : Bool) (call : Call) (s : State) → number rules call s ≡ 0 → Fine q s → FreeFor rules call s
  frees q Tick s e w = λ i lo hi.
      let k = w.each (i - 1) (omega arith) in
      let quiet = any_false (due s.table.clock) rules.plan.n s.table.parties nobody (asked_due _ _ _ e) (i - 1) (omega arith) w.long in
      let L = law rules sound in (
        (λ ends on. free_out _ _ L q _ _ _ _ w.scene _ k (ends_up _ _ _ ends).1 quiet),
        (λ joins lo whole. free_entry _ _ L q _ _ _ _ w.scene _ k joins quiet lo whole),
      )
  frees q (Deliver i leg) s e w = λ first.
      let a = asked_beat rules.plan.n i (on_leg leg (the i s.table)) _ e in
      go a.0 a.1 (on_leg leg (the i s.table)) refl a.2 first
    where
      go : 1 ≤ i → i ≤ rules.plan.n → (o : Option Beat) → on_leg leg (the i s.table) ≡ o → is_some o ≡ true → leg ≡ 1 → (the i s.table).legs.reply ≡ None
      go lo hi None f there first = absurd (clash _ there refl)
      go lo hi (Some b) f there first =
          free_reply _ _ (law rules sound) q _ _ _ _ w.scene _ (w.each (i - 1) (omega arith)) b
          (subst (λ x. on_leg x (the i s.table) ≡ Some b) first f)
  frees q (Lose i leg) s e w = tt
  frees q (Crash i) s e w = tt
  frees q (Join i) s e w =
      let a = asked_party rules.plan.n i _ e in
      let b = asked_wide (is_party rules.plan.n i) (may_join rules.plan.kind) (is_outside (the i s.table).own.standing) (log_asks 2 rules.room s) e in
      free_entry_outside _ _ (law rules sound) q _ _ _ _ w.scene _ (w.each (i - 1) (omega arith)) (outside _ b.1)
  frees q (Leave i) s e w = tt

pub free_legs : (rules : Rules) → Lawful rules.meaning → (calls : List Call) (call : Call) →
    number rules call (run_state rules calls) ≡ 0 → FreeFor rules call (run_state rules calls)
free_legs rules sound calls call e =
    frees rules sound _ call (run_state rules calls) e (run_whole rules sound calls)

-- no beat of the root is on its way to a struck party
pub no_beat_of_the_root :
    (rules : Rules) → Lawful rules.meaning → (calls : List Call) (i : ℕ) → 1 ≤ i → i ≤ rules.plan.n →
    let s = state_after rules calls (opening rules) in (the i s.table).note.roll ≡ Struck → (the i s.table).legs.out ≡ None
no_beat_of_the_root rules sound calls i lo hi e =
    let w = run_whole rules sound calls in
    no_beat_to_struck _ _ (law rules sound) _ _ _ _ _ w.scene _ (w.each (i - 1) (omega arith)) e

-- a beat on a leg may still arrive, and not for more than a trip
pub last_ticks :
    (rules : Rules) → Lawful rules.meaning → (calls : List Call) (i leg : ℕ) (b : Beat) → 1 ≤ i → i ≤ rules.plan.n →
    let s = state_after rules calls (opening rules) in on_leg leg (the i s.table) ≡ Some b → (s.table.clock ≤ b.last) × (b.last ≤ s.table.clock + trip rules.meaning)
last_ticks rules sound calls i leg b lo hi e =
    let w = run_whole rules sound calls in
    party_last_ticks _ _ (law rules sound) _ _ _ _ _ w.scene _ (w.each (i - 1) (omega arith)) leg b e
