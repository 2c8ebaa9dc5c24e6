-- What holds between the log and the beats on the legs, when one party has changed and after a pass.
use Rattle.std.proofs.Common.{Bool, List, None, Option, Some, [], ap, arith, cond, false, get_or, inl, inr, leb, length, length-set, refl, set, subst, suc, sym, true, zero, ℕ, ◌++◌, ◌+◌, ◌-◌, ◌<◌, ◌||◌, ◌∙◌, ◌∷◌, ◌≡◌, ◌≤◌, ◌⊎◌}
use Rattle.std.proofs.lemmas.List.{append-nil, get_or_append_left, length_push}
use Rattle.std.proofs.lemmas.Bool.Decides.{nat_tests}
use Rattle.protocol.specs.declared.party.Party.{Party}
use Rattle.protocol.specs.declared.party.Beat.{Beat}
use Rattle.protocol.specs.declared.happening.Happening.{Happening}
use Rattle.protocol.specs.declared.call.Call.{Call}
use Rattle.protocol.specs.declared.call.Call.TheVariants.{Crash, Deliver, Join, Leave, Lose, Tick}
use Rattle.pace.specs.Meaning.{Meaning}
use Rattle.protocol.specs.Rules.{Rules}
use Rattle.protocol.specs.Walk.{folds, walks}
use Rattle.protocol.specs.Party.{nobody, off_leg, on_leg}
use Rattle.protocol.specs.State.{State, the}
use Rattle.protocol.specs.calls.Lose.{sender}
use Rattle.protocol.specs.Runs.{number, perform}
use Rattle.protocol.specs.Beats.{Edge, Linked, LossesLinked, OtherEnd, SentBy, SettledOnce, Unsettled, edge, edges, happening_at, is_arrival, is_loss, nothing, settles}
use Rattle.protocol.specs.Order.{InOrder}
use Rattle.protocol.proofs.Onward.{Onward, every_push, folds_between, folds_onward, keeps_push, linked_push, losses_push, onward_linked, onward_losses, order_push, stay}
use Rattle.protocol.proofs.Legs.{New, Turned, off_gone, off_others}
use Rattle.protocol.proofs.Lifts.{folds_next, set_each, set_two, walks_at, walks_long}

-- the edge of a beat that arrives at place k
abbrev pub beat_edge : Option Beat → ℕ → List Edge
beat_edge None k = []
beat_edge (Some b) k = edge b.place k ∷ []

-- the edge of a delivery that is not refused: from the sending of the beat on the leg to the log's next place
abbrev pub delivery : Call → ℕ → State → List Edge
delivery Tick k s = []
delivery (Deliver i leg) zero s = beat_edge (on_leg leg (the i s.table)) (length s.log)
delivery (Deliver i leg) (suc k) s = []
delivery (Lose i leg) k s = []
delivery (Crash i) k s = []
delivery (Join i) k s = []
delivery (Leave i) k s = []

-- the edges of the deliveries of a run, told by making all its calls again
abbrev pub deliveries : Rules → List Call → State → List Edge
deliveries rules [] s = []
deliveries rules (call ∷ calls) s = delivery call (number rules call s) s ++ deliveries rules calls (perform rules call s)

-- the parties and the length of the log at some moment before
pub record Moment : Type 0 where
  pub parties : List Party
  pub place : ℕ

abbrev pub at : State → Moment
at s = record { parties = s.table.parties; place = length s.log }

-- what holds between the log, at clock c, and the beats on the legs of the first n parties, since a moment before
pub record Told (o : Moment) (n c : ℕ) (ps : List Party) (log : List Happening) : Type 0 where
  pub since : o.place ≤ length log
  pub older : (k leg : ℕ) (b : Beat) → k < n → on_leg leg (get_or ps k nobody) ≡ Some b → (on_leg leg (get_or o.parties k nobody) ≡ Some b) ⊎ (o.place ≤ b.place)
  pub order : InOrder c log
  pub linked : Linked n log
  pub losses : LossesLinked log
  pub once : SettledOnce log
  pub carried : (k leg : ℕ) (b : Beat) → k < n → on_leg leg (get_or ps k nobody) ≡ Some b → SentBy log (sender leg (k + 1)) b.place
  pub under_way : (k leg : ℕ) (b : Beat) → k < n → on_leg leg (get_or ps k nobody) ≡ Some b → Unsettled log b.place
  pub apart : (k leg : ℕ) (b : Beat) (k' leg' : ℕ) (b' : Beat) → k < n → k' < n →
      on_leg leg (get_or ps k nobody) ≡ Some b → on_leg leg' (get_or ps k' nobody) ≡ Some b' → b.place ≡ b'.place → (k ≡ k') × (leg ≡ leg')
  pub long : n ≤ length ps

-- sendings: each beat on a leg stood there before, or is new, and no two parties have a new one of the same place
module _ (o : Moment) (n c w : ℕ) (ps ps' : List Party) (log log' : List Happening) (N : ℕ → ℕ → Type 0) (grown : Onward c log log') (t : Told o n c ps log)
    (differ : (j k x : ℕ) → N j x → N k x → j ≡ k)
    (turned : (k leg : ℕ) (b : Beat) → k < n → on_leg leg (get_or ps' k nobody) ≡ Some b →
    (on_leg leg (get_or ps k nobody) ≡ Some b) ⊎ (New w (k + 1) (length log) log' leg b × N k b.place))
    (long : n ≤ length ps') where
  sent_on : (k leg : ℕ) (b : Beat) → k < n → on_leg leg (get_or ps' k nobody) ≡ Some b → SentBy log' (sender leg (k + 1)) b.place
  sent_on k leg b h e = elim (turned k leg b h e) [ inl old ↦ grown.keeps _ _ (t.carried k leg b h old) | inr new ↦ new.0.sent ]

  unsettled_on : (k leg : ℕ) (b : Beat) → k < n → on_leg leg (get_or ps' k nobody) ≡ Some b → Unsettled log' b.place
  unsettled_on k leg b h e j below is same =
      let s = grown.settled j below is in
      let is' : settles (happening_at log j).kind ≡ true = ap (λ (x : Happening). settles x.kind) (sym s.1) ∙ is in
      let same' : (happening_at log j).link ≡ b.place = ap (λ (x : Happening). x.link) (sym s.1) ∙ same in
      elim (turned k leg b h e) [ inl old ↦ t.under_way k leg b h old j s.0 is' same' | inr new ↦ older j s.0 is' (omega (arith, same', new.0.fresh)) ]
    where
      -- an arrival or a loss links to a place of the log
      older : (j : ℕ) → j < length log → settles (happening_at log j).kind ≡ true → length log ≤ (happening_at log j).link → ⊥
      older j below is low = go (is_arrival (happening_at log j).kind) (is_loss (happening_at log j).kind) refl refl is
        where
          go : (x y : Bool) → is_arrival (happening_at log j).kind ≡ x → is_loss (happening_at log j).kind ≡ y → (x || y) ≡ true → ⊥
          go true y ea el f = omega (arith, (t.linked j below ea).earlier)
          go false true ea el f = omega (arith, (t.losses j below el).earlier)
          go false false ea el f = absurd (grind arith)

  apart_on : (k leg : ℕ) (b : Beat) (k' leg' : ℕ) (b' : Beat) → k < n → k' < n →
      on_leg leg (get_or ps' k nobody) ≡ Some b → on_leg leg' (get_or ps' k' nobody) ≡ Some b' → b.place ≡ b'.place → (k ≡ k') × (leg ≡ leg')
  apart_on k leg b k' leg' b' h h' e e' same = elim (turned k leg b h e) [ inl old ↦ first old | inr new ↦ second new ]
    where
      first : on_leg leg (get_or ps k nobody) ≡ Some b → (k ≡ k') × (leg ≡ leg')
      first old = elim (turned k' leg' b' h' e') [
        | inl old' ↦ t.apart k leg b k' leg' b' h h' old old' same
        | inr new' ↦ absurd (omega (arith, same, (t.carried k leg b h old).below, new'.0.fresh))
      ]

      second : New w (k + 1) (length log) log' leg b × N k b.place → (k ≡ k') × (leg ≡ leg')
      second new = elim (turned k' leg' b' h' e') [
        | inl old' ↦ absurd (omega (arith, same, (t.carried k' leg' b' h' old').below, new.0.fresh))
        | inr new' ↦ (differ k k' b.place new.1 (subst (N k') (sym same) new'.1), new.0.on ∙ sym new'.0.on)
      ]

  once_on : SettledOnce log'
  once_on j k lt below is_j is_k same =
      let a = grown.settled j (omega arith) is_j in
      let b = grown.settled k below is_k in
      t.once j k lt b.0 (ap (λ (x : Happening). settles x.kind) (sym a.1) ∙ is_j) (ap (λ (x : Happening). settles x.kind) (sym b.1) ∙ is_k)
      (ap (λ (x : Happening). x.link) (sym a.1) ∙ same ∙ ap (λ (x : Happening). x.link) b.1)

  pub moves : Told o n c ps' log'
  moves = record {
    since = omega (arith, t.since, grown.longer);
    older = λ k leg b h e. elim (turned k leg b h e) [ inl old ↦ t.older k leg b h old | inr new ↦ inr (omega (arith, t.since, new.0.fresh)) ];
    order = grown.order t.order;
    linked = onward_linked n c log log' grown t.linked;
    losses = onward_losses c log log' grown t.losses;
    once = once_on;
    carried = sent_on;
    under_way = unsettled_on;
    apart = apart_on;
    long = long;
  }

module _ (o : Moment) (n c : ℕ) where
  abbrev T : List Party → List Happening → Type 0
  T ps log = Told o n c ps log

  -- one party has changed from a to b, and no other
  pub turns_two : (w i : ℕ) (a b : Party) (ps : List Party) (log log' : List Happening) → 1 ≤ i → i ≤ n → Onward c log log' → T (set ps (i - 1) a) log →
      Turned w i (length log) log' a b → T (set ps (i - 1) b) log'
  turns_two w i a b ps log log' lo hi grown t change =
      moves o n c w (set ps (i - 1) a) (set ps (i - 1) b) log log' (λ k x. k ≡ i - 1) grown t (λ j k x e f. e ∙ sym f)
      (λ k leg d h. set_two (λ x y. on_leg leg y ≡ Some d → (on_leg leg x ≡ Some d) ⊎ (New w (k + 1) (length log) log' leg d × (k ≡ i - 1))) ps (i - 1) k a b nobody
      (λ e f. elim (change leg d f) [ inl old ↦ inl old | inr new ↦ inr (subst (λ j. New w j (length log) log' leg d) (omega arith) new, sym e) ])
      (λ f. inl f))
      (omega (arith, length-set ps (i - 1) a, length-set ps (i - 1) b, t.long))

  pub turns_one : (w i : ℕ) (b : Party) (ps : List Party) (log log' : List Happening) → 1 ≤ i → i ≤ n → Onward c log log' → T ps log →
      Turned w i (length log) log' (get_or ps (i - 1) nobody) b → T (set ps (i - 1) b) log'
  turns_one w i b ps log log' lo hi grown t change =
      moves o n c w ps (set ps (i - 1) b) log log' (λ k x. k ≡ i - 1) grown t (λ j k x e f. e ∙ sym f)
      (λ k leg d h. set_each (λ y. on_leg leg y ≡ Some d → (on_leg leg (get_or ps k nobody) ≡ Some d) ⊎ (New w (k + 1) (length log) log' leg d × (k ≡ i - 1))) ps (i - 1) k b nobody
      (λ e f. elim (change leg d f)
      [ inl old ↦ inl (subst (λ j. on_leg leg (get_or ps j nobody) ≡ Some d) e old) | inr new ↦ inr (subst (λ j. New w j (length log) log' leg d) (omega arith) new, sym e) ])
      (λ f. inl f))
      (omega (arith, length-set ps (i - 1) b, t.long))

  -- no leg has changed
  pub log_idles : (ps : List Party) (log log' : List Happening) → Onward c log log' → T ps log → T ps log'
  log_idles ps log log' grown t = moves o n c 0 ps ps log log' (λ k x. k ≡ 0) grown t (λ j k x e f. e ∙ sym f) (λ k leg d h f. inl f) t.long

  -- a pass over the parties, each of which may send a beat on leg w
  pub log_passes : (w : ℕ) (f : ℕ → List Happening → Party → Party) (g : ℕ → List Happening → Party → List Happening) →
      ((j : ℕ) (log : List Happening) (p : Party) → Onward c log (g j log p)) →
      ((j : ℕ) (log : List Happening) (p : Party) → Turned w j (length log) (g j log p) p (f j log p)) →
      (ps : List Party) (log : List Happening) → T ps log → T (walks f g 1 n log ps) (folds g 1 n log ps)
  log_passes w f g grows turn ps log t =
      moves o n c w ps (walks f g 1 n log ps) log (folds g 1 n log ps) Between (folds_onward c g grows 1 n log ps) t differ
      (λ k leg b h e. elim (turn (k + 1) (stop k) (get_or ps k nobody) leg b (subst (λ p. on_leg leg p ≡ Some b) (walks_at f g 1 n log ps nobody k h t.long) e))
      [ inl old ↦ inl old | inr new ↦ inr (taken k leg b h new) ])
      (walks_long f g 1 n log ps n t.long)
    where
      stop : ℕ → List Happening
      stop k = folds g 1 k log ps

      -- the place of a record that the turn of party k + 1 has written
      Between : ℕ → ℕ → Type 0
      Between k x = (length (stop k) ≤ x) × (x < length (stop (suc k)))

      differ : (j k x : ℕ) → Between j x → Between k x → j ≡ k
      differ j k x a b = go (leb (suc j) k) (leb (suc k) j) refl refl
        where
          go : (l r : Bool) → leb (suc j) k ≡ l → leb (suc k) j ≡ r → j ≡ k
          go true r el er = absurd (omega (arith, (folds_between c g grows 1 (suc j) k log ps (grind (arith, nat_tests))).longer, a.1, b.0))
          go false true el er = absurd (omega (arith, (folds_between c g grows 1 (suc k) j log ps (grind (arith, nat_tests))).longer, a.0, b.1))
          go false false el er = grind (arith, nat_tests)

      taken : (k leg : ℕ) (b : Beat) → k < n → New w (k + 1) (length (stop k)) (g (k + 1) (stop k) (get_or ps k nobody)) leg b →
          New w (k + 1) (length log) (folds g 1 n log ps) leg b × Between k b.place
      taken k leg b h new =
          let next = folds_next f g 1 log ps nobody k (omega (arith, t.long)) in
          let s = subst (λ l. SentBy l (sender leg (k + 1)) b.place) (sym next) new.sent in (
            record { on = new.on; fresh = omega (arith, new.fresh, (folds_onward c g grows 1 k log ps).longer); sent = (folds_between c g grows 1 (suc k) n log ps h).keeps _ _ s },
            (new.fresh, s.below),
          )

  -- the beat on leg x of party i is taken off and settled by a record h
  module _ (i x : ℕ) (b : Beat) (h : Happening) (ps : List Party) (log : List Happening) (lo : 1 ≤ i) (hi : i ≤ n) (t : T ps log)
      (held : on_leg x (get_or ps (i - 1) nobody) ≡ Some b) (at_c : h.tick ≡ c) (of_b : h.link ≡ b.place) where
    abbrev ps' : List Party
    ps' = set ps (i - 1) (off_leg x (get_or ps (i - 1) nobody))

    abbrev log' : List Happening
    log' = log ++ h ∷ []

    -- what is on a leg now stood there before, and not where the beat was taken off
    remains : (k leg : ℕ) (d : Beat) → on_leg leg (get_or ps' k nobody) ≡ Some d → (on_leg leg (get_or ps k nobody) ≡ Some d) × (i - 1 ≡ k → leg ≡ x → ⊥)
    remains k leg d = go ps (i - 1) k (off_leg x (get_or ps (i - 1) nobody)) (get_or ps (i - 1) nobody) refl (off_others x leg _ d) (off_gone x leg _ d)
      where
        go : (qs : List Party) (j k : ℕ) (a p : Party) → get_or qs j nobody ≡ p → (on_leg leg a ≡ Some d → on_leg leg p ≡ Some d) → (on_leg leg a ≡ Some d → leg ≡ x → ⊥) →
            on_leg leg (get_or (set qs j a) k nobody) ≡ Some d → (on_leg leg (get_or qs k nobody) ≡ Some d) × (j ≡ k → leg ≡ x → ⊥)
        go [] j k a p is f g e = (e, absurd (grind arith))
        go (q ∷ qs) zero zero a p is f g e = (subst (λ y. on_leg leg y ≡ Some d) (sym is) (f e), λ _. g e)
        go (q ∷ qs) zero (suc k) a p is f g e = (e, λ z. absurd (omega arith))
        go (q ∷ qs) (suc j) zero a p is f g e = (e, λ z. absurd (omega arith))
        go (q ∷ qs) (suc j) (suc k) a p is f g e = let r = go qs j k a p is f g e in (r.0, λ z. r.1 (omega arith))

    unsettled : Unsettled log b.place
    unsettled = t.under_way (i - 1) x b (omega arith) held

    pub log_settles : (is_arrival h.kind ≡ true → (o : ℕ) × SentBy log o h.link × OtherEnd n o h.owner) → (is_loss h.kind ≡ true → SentBy log h.owner h.link) → T ps' log'
    log_settles arrival loss = record {
      since = omega (arith, t.since, length_push log h);
      older = λ k leg d below e. t.older k leg d below (remains k leg d e).0;
      order = order_push log h c at_c t.order;
      linked = linked_push log h n arrival t.linked;
      losses = losses_push log h loss t.losses;
      once = λ j k lt below is_j. every_push log h
          (λ k y. j < k → settles (happening_at log' j).kind ≡ true → settles y.kind ≡ true → (happening_at log' j).link ≡ y.link → ⊥)
          (λ k below lt is_j is_k same.
          let e = get_or_append_left log (h ∷ []) nothing j (omega arith) in
          t.once j k lt below (ap (λ (y : Happening). settles y.kind) (sym e) ∙ is_j) is_k (ap (λ (y : Happening). y.link) (sym e) ∙ same))
          (λ lt is_j is_h same.
          let e = get_or_append_left log (h ∷ []) nothing j lt in
          unsettled j lt (ap (λ (y : Happening). settles y.kind) (sym e) ∙ is_j) (ap (λ (y : Happening). y.link) (sym e) ∙ same ∙ of_b))
          k below lt is_j;
      carried = λ k leg d below e. keeps_push log h _ _ (t.carried k leg d below (remains k leg d e).0);
      under_way = λ k leg d below e. let r = remains k leg d e in
          every_push log h (λ j y. settles y.kind ≡ true → y.link ≡ d.place → ⊥) (t.under_way k leg d below r.0)
          (λ is same. let z = t.apart (i - 1) x b k leg d (omega arith) below held r.0 (sym of_b ∙ same) in r.1 z.0 (sym z.1));
      apart = λ k leg d k' leg' d' below below' e e'. t.apart k leg d k' leg' d' below below' (remains k leg d e).0 (remains k' leg' d' e').0;
      long = omega (arith, length-set ps (i - 1) (off_leg x (get_or ps (i - 1) nobody)), t.long);
    }

-- the records that a call writes after the arrival or the loss
module _ (c : ℕ) where
  pub cond_onward : (b : Bool) (log grown : List Happening) → Onward c log grown → Onward c log (cond b grown log)
  cond_onward true log grown w = w
  cond_onward false log grown w = stay c log

module _ (o : Moment) (rules : Rules) where
  abbrev n : ℕ
  n = rules.plan.n

  abbrev m : Meaning
  m = rules.meaning

  abbrev pub LogHolds : State → Type 0
  LogHolds s = Told o n s.table.clock s.table.parties s.log

  -- after a call: what holds, and the edges that came
  abbrev pub LogNext : State → State → List Edge → Type 0
  LogNext s s' es = LogHolds s' × (edges 0 s'.log ≡ edges 0 s.log ++ es)

  -- a call that neither delivers nor loses
  abbrev pub LogGoes : State → State → Type 0
  LogGoes s s' = LogHolds s' × Onward s.table.clock s.log s'.log

  pub log_quietly : (s s' : State) → LogHolds s' → edges 0 s'.log ≡ edges 0 s.log → LogNext s s' []
  log_quietly s s' t e = (t, e ∙ sym (append-nil (edges 0 s.log)))

  pub log_onward : (s s' : State) → LogGoes s s' → LogNext s s' []
  log_onward s s' g = log_quietly s s' g.0 g.1.same

  pub held_at : (s : State) (i leg : ℕ) (b : Beat) → 1 ≤ i → i ≤ n → LogHolds s → on_leg leg (the i s.table) ≡ Some b → SentBy s.log (sender leg i) b.place
  held_at s i leg b lo hi t e = subst (λ j. SentBy s.log (sender leg j) b.place) (omega arith) (t.carried (i - 1) leg b (omega arith) e)
