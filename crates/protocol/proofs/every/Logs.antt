-- Every call keeps the beats and the log together, and so every run does.
use Rattle.std.proofs.Common.{Bool, List, None, Some, [], ap, arith, cond, eqb, get_or, inl, inr, refl, subst, suc, sym, ℕ, ◌++◌, ◌-◌, ◌<◌, ◌∙◌, ◌∷◌, ◌≡◌, ◌≤◌}
use lib.ListN.{get_or-replicate}
use Rattle.std.proofs.lemmas.List.{append-nil, append_assoc}
use Rattle.protocol.specs.declared.party.Beat.{Beat}
use Rattle.protocol.specs.declared.kind.GroupKind.{GroupKind}
use Rattle.protocol.specs.declared.call.Call.{Call}
use Rattle.protocol.specs.declared.call.Call.TheVariants.{Crash, Deliver, Join, Leave, Lose, Tick}
use Rattle.protocol.specs.Rules.{Rules}
use Rattle.protocol.specs.Party.{fresh, nobody, on_leg}
use Rattle.protocol.specs.State.{State, opening, the}
use Rattle.protocol.specs.calls.Lose.{sender}
use Rattle.protocol.specs.Runs.{effect, number, perform, run_state, state_after}
use Rattle.protocol.specs.Beats.{PutBy, SentBy, edges}
use Rattle.protocol.proofs.Runs.{every_run, granted_effect}
use Rattle.protocol.proofs.Asked.{asked_low, asked_party}
use Rattle.protocol.proofs.Logs.{LogHolds, LogNext, Moment, at, deliveries, delivery, held_at}
use Rattle.protocol.proofs.calls.Deliver.{delivery_keeps_log}
use Rattle.protocol.proofs.calls.Lose.{loss_keeps_log}
use Rattle.protocol.proofs.calls.Crash.{crash_keeps_log}
use Rattle.protocol.proofs.calls.Join.{join_keeps_log}
use Rattle.protocol.proofs.calls.Leave.{leave_keeps_log}
use Rattle.protocol.proofs.calls.Tick.{tick_keeps_log}

module _ (rules : Rules) where
  call_keeps_log : (o : Moment) (call : Call) (s : State) → number rules call s ≡ 0 → LogHolds o rules s → LogNext o rules s (effect rules call s) (delivery call 0 s)
  call_keeps_log o Tick s e t = tick_keeps_log o rules s t
  call_keeps_log o (Deliver i leg) s e t = let a = asked_party rules.plan.n i _ e in delivery_keeps_log o rules (on_leg leg (the i s.table)) i leg s refl a.0 a.1 t
  call_keeps_log o (Lose i leg) s e t = let a = asked_party rules.plan.n i _ e in loss_keeps_log o rules (on_leg leg (the i s.table)) i leg s refl a.0 a.1 t
  call_keeps_log o (Crash i) s e t = crash_keeps_log o rules i s (asked_low rules.plan.n i _ e) t
  call_keeps_log o (Join i) s e t = let a = asked_party rules.plan.n i _ e in join_keeps_log o rules i s a.0 a.1 t
  call_keeps_log o (Leave i) s e t = let a = asked_party rules.plan.n i _ e in leave_keeps_log o rules i s a.0 a.1 t

  refused : (call : Call) (k : ℕ) (s : State) → delivery call (suc k) s ≡ []
  refused Tick k s = refl
  refused (Deliver i leg) k s = refl
  refused (Lose i leg) k s = refl
  refused (Crash i) k s = refl
  refused (Join i) k s = refl
  refused (Leave i) k s = refl

  -- what holds since any moment holds since the present one
  holds_now : (o : Moment) (s : State) → LogHolds o rules s → LogHolds (at s) rules s
  holds_now o s t = record {
    since = omega arith;
    older = λ k leg b h e. inl e;
    order = t.order;
    linked = t.linked;
    losses = t.losses;
    once = t.once;
    carried = t.carried;
    under_way = t.under_way;
    apart = t.apart;
    long = t.long;
  }

  abbrev pub Now : State → Type 0
  Now s = LogHolds (at s) rules s

  pub deliveries_append : (xs ys : List Call) (s : State) → deliveries rules (xs ++ ys) s ≡ deliveries rules xs s ++ deliveries rules ys (state_after rules xs s)
  deliveries_append [] ys s = refl
  deliveries_append (x ∷ xs) ys s =
      let d = delivery x (number rules x s) s in
      let s' = perform rules x s in
      ap (λ es. d ++ es) (deliveries_append xs ys s') ∙ sym (append_assoc d (deliveries rules xs s') (deliveries rules ys (state_after rules xs s')))

  -- one call more
  deliveries_more : (calls : List Call) (call : Call) (k : ℕ) (s : State) → number rules call (state_after rules calls s) ≡ k →
      deliveries rules (calls ++ call ∷ []) s ≡ deliveries rules calls s ++ delivery call k (state_after rules calls s)
  deliveries_more calls call k s z =
      let s' = state_after rules calls s in
      deliveries_append calls (call ∷ []) s
      ∙ ap (λ es. deliveries rules calls s ++ es) (append-nil (delivery call (number rules call s') s') ∙ ap (λ k. delivery call k s') z)

  -- a new group has nothing on its legs

  bare : (kind : GroupKind) (x y z : Bool) (b : Beat) → cond x (fresh kind).legs.out (cond y (fresh kind).legs.reply (cond z (fresh kind).legs.entry None)) ≡ Some b → ⊥
  bare kind x y z b e = grind arith

  empty : (k leg : ℕ) (b : Beat) → k < rules.plan.n → on_leg leg (get_or (opening rules).table.parties k nobody) ≡ Some b → ⊥
  empty k leg b h e =
      bare rules.plan.kind (eqb leg 1) (eqb leg 2) (eqb leg 3) b
      (subst (λ p. on_leg leg p ≡ Some b) (get_or-replicate 32 k (fresh rules.plan.kind) nobody (omega (arith, rules.plan.few))) e)

  -- what holds after the calls of a run
  pub record Logged (calls : List Call) (s : State) : Type 0 where
    pub told : Now s
    pub edges : edges 0 s.log ≡ deliveries rules calls (opening rules)
    -- a beat on a leg was put there by one of the calls
    pub put : (i leg : ℕ) (b : Beat) → 1 ≤ i → i ≤ rules.plan.n → on_leg leg (the i s.table) ≡ Some b → PutBy rules (opening rules) calls i leg b

  opens : Now (opening rules)
  opens = record {
    since = omega arith;
    older = λ k leg b h e. inl e;
    order = record { rises = λ i j d le lt. absurd (omega arith); none_later = λ k h. absurd (omega arith) };
    linked = λ k h is. absurd (omega arith);
    losses = λ k h is. absurd (omega arith);
    once = λ j k lt h. absurd (omega arith);
    carried = λ k leg b h e. absurd (empty k leg b h e);
    under_way = λ k leg b h e. absurd (empty k leg b h e);
    apart = λ k leg b k' leg' b' h h' e e' same. absurd (empty k leg b h e);
    long = omega (arith, rules.plan.few);
  }

  -- a beat put there before one call more
  put_before : (calls : List Call) (call : Call) (i leg : ℕ) (b : Beat) → PutBy rules (opening rules) calls i leg b → PutBy rules (opening rules) (calls ++ call ∷ []) i leg b
  put_before calls call i leg b p = record {
    before = p.before;
    call = p.call;
    after = p.after ++ call ∷ [];
    among = ap (λ cs. cs ++ call ∷ []) p.among ∙ append_assoc p.before (p.call ∷ p.after) (call ∷ []);
    not_yet = p.not_yet;
    written = p.written;
    put = p.put;
  }

  module _ (before : List Call) (call : Call) where
    abbrev s : State
    s = run_state rules before

    abbrev s' : State
    s' = effect rules call s

    granted : number rules call s ≡ 0 → Logged before s → Logged (before ++ call ∷ []) s'
    granted z h =
        let a = call_keeps_log (at s) call s z h.told in
        let t = holds_now (at s) s' a.0 in
        record {
          told = t;
          edges = a.1 ∙ ap (λ es. es ++ delivery call 0 s) h.edges ∙ sym (deliveries_more before call 0 (opening rules) z);
          put = λ i leg b lo hi e. elim (a.0.older (i - 1) leg b (omega arith) e) [
            | inl old ↦ put_before before call i leg b (h.put i leg b lo hi old)
            | inr fresh ↦ record {
              before = before;
              call = call;
              after = [];
              among = refl;
              not_yet = fresh;
              written = subst (λ (x : State). SentBy x.log (sender leg i) b.place) (sym (granted_effect rules call s z)) (held_at (at s') rules s' i leg b lo hi t e);
              put = subst (λ (x : State). on_leg leg (the i x.table) ≡ Some b) (sym (granted_effect rules call s z)) e;
            }
          ];
        }

    not_granted : (k : ℕ) → number rules call s ≡ suc k → Logged before s → Logged (before ++ call ∷ []) s
    not_granted k z h = record {
      told = h.told;
      edges = h.edges ∙ sym (append-nil (deliveries rules before (opening rules)))
          ∙ ap (λ es. deliveries rules before (opening rules) ++ es) (sym (refused call k s)) ∙ sym (deliveries_more before call (suc k) (opening rules) z);
      put = λ i leg b lo hi e. put_before before call i leg b (h.put i leg b lo hi e);
    }

  pub run_logged : (calls : List Call) → Logged calls (run_state rules calls)
  run_logged =
      every_run rules (opening rules) Logged granted not_granted
      (record { told = opens; edges = refl; put = λ i leg b lo hi e. absurd (empty (i - 1) leg b (omega arith) e) })

  -- the log holds the sending of a beat on a leg
  pub held : (calls : List Call) (i leg : ℕ) (b : Beat) → 1 ≤ i → i ≤ rules.plan.n → let s = state_after rules calls (opening rules) in
      on_leg leg (the i s.table) ≡ Some b → SentBy s.log (sender leg i) b.place
  held calls i leg b lo hi e = let s = run_state rules calls in held_at (at s) rules s i leg b lo hi (run_logged calls).told e
