-- How a log may grow: record by record.
use Rattle.std.proofs.Common.{◌≡◌, ℕ, zero, suc, ◌+◌, ◌-◌, ◌<◌, ◌≤◌, Bool, true, false, cond, ◌||◌, List, [], ◌∷◌, ◌++◌, length, sym, refl, ap, ◌∙◌, subst, add-zero, arith}
use native.Mathlib.Decide.{dec_lt}
use Rattle.std.proofs.lemmas.List.Sorted.{IsNonDecreasingBy-push}
use Rattle.std.proofs.lemmas.List.{append-nil, length_push, get_or_append_left, get_or_push}
use Rattle.protocol.specs.declared.happening.HappeningKind.TheVariants.{Sent, Arrived}
use Rattle.protocol.specs.declared.happening.Happening.{Happening}
use Rattle.protocol.specs.Walk.{folds}
use Rattle.protocol.specs.State.{happening, with_linked}
use Rattle.protocol.specs.Questions.{tick_of}
use Rattle.protocol.specs.Beats.{is_arrival, is_loss, settles, nothing, happening_at, SentBy, OtherEnd, LinkedAt, LostAt, Linked, LossesLinked, edge, edges}
use Rattle.protocol.specs.Order.{InOrder}
use Rattle.protocol.proofs.Lifts.{get_or_any}

-- the log has grown by records of tick c that are neither arrivals nor losses
pub record Onward (c : ℕ) (log log' : List Happening) : Type 0 where
  pub keeps : (o k : ℕ) → SentBy log o k → SentBy log' o k
  pub settled : (k : ℕ) → k < length log' → settles (happening_at log' k).kind ≡ true → (k < length log) × (happening_at log' k ≡ happening_at log k)
  pub longer : length log ≤ length log'
  pub same : edges 0 log' ≡ edges 0 log
  pub order : InOrder c log → InOrder c log'

pub stay : (c : ℕ) (log : List Happening) → Onward c log log
stay c log = record { keeps = λ o k h. h; settled = λ k h is. (h, refl); longer = omega arith; same = refl; order = λ h. h }

pub further : (c : ℕ) (x y z : List Happening) → Onward c x y → Onward c y z → Onward c x z
further c x y z f g = record {
  keeps = λ o k h. g.keeps o k (f.keeps o k h);
  settled = λ k h is.
      let a = g.settled k h is in
      let b = f.settled k a.0 (ap (λ (h : Happening). settles h.kind) (sym a.1) ∙ is) in
      (b.0, a.1 ∙ b.1);
  longer = omega (arith, f.longer, g.longer);
  same = g.same ∙ f.same;
  order = λ h. g.order (f.order h);
}

clash : (b : Bool) → b ≡ true → b ≡ false → ⊥
clash b e f = let z : ◌≡◌ {A = ℕ} 0 1 = cc in omega arith

-- a record more, of any kind

module _ (log : List Happening) (h : Happening) where
  pub keeps_push : (o k : ℕ) → SentBy log o k → SentBy (log ++ h ∷ []) o k
  keeps_push o k s =
      let e = get_or_append_left log (h ∷ []) nothing k s.below in
      record { below = omega (arith, length_push log h, s.below); kind = ap (λ (x : Happening). x.kind) e ∙ s.kind; owner = ap (λ (x : Happening). x.owner) e ∙ s.owner }

  -- what holds of each place and its record, if it holds of the new one
  pub every_push : (P : ℕ → Happening → Type 0) → ((k : ℕ) → k < length log → P k (happening_at log k)) → P (length log) h → (k : ℕ) → k < length (log ++ h ∷ []) → P k (happening_at (log ++ h ∷ []) k)
  every_push P old new k below = elim (dec_lt k (length log)) [ yes x ↦ early x | no x ↦ latest (omega (arith, length_push log h)) ]
    where
      early : k < length log → P k (happening_at (log ++ h ∷ []) k)
      early x = subst (P k) (sym (get_or_append_left log (h ∷ []) nothing k x)) (old k x)

      latest : k ≡ length log → P k (happening_at (log ++ h ∷ []) k)
      latest x = subst (P k) (sym (get_or_push log h nothing k (sym x))) (subst (λ j. P j h) (sym x) new)

  pub order_push : (c : ℕ) → h.tick ≡ c → InOrder c log → InOrder c (log ++ h ∷ [])
  order_push c e o = record {
    rises = IsNonDecreasingBy-push tick_of log h o.rises
        (λ d pos. omega (arith, e, ap tick_of (get_or_any log (length log - 1) d nothing (omega arith)), o.none_later (length log - 1) (omega arith)));
    none_later = every_push (λ k x. x.tick ≤ c) o.none_later (omega (arith, e));
  }

  -- the links of the arrivals, where a new arrival has its own
  pub linked_push : (n : ℕ) → (is_arrival h.kind ≡ true → (o : ℕ) × SentBy log o h.link × OtherEnd n o h.owner) → Linked n log → Linked n (log ++ h ∷ [])
  linked_push n new old = every_push (λ k x. is_arrival x.kind ≡ true → LinkedAt n (log ++ h ∷ []) k x)
      (λ k below is. let l = old k below is in record { earlier = l.earlier; by = l.by; sending = keeps_push _ _ l.sending; other = l.other })
      (λ is. let l = new is in record { earlier = l.1.below; by = l.0; sending = keeps_push _ _ l.1; other = l.2 })

  -- the links of the losses, where a new loss has its own
  pub losses_push : (is_loss h.kind ≡ true → SentBy log h.owner h.link) → LossesLinked log → LossesLinked (log ++ h ∷ [])
  losses_push new old = every_push (λ k x. is_loss x.kind ≡ true → LostAt (log ++ h ∷ []) k x)
      (λ k below is. let l = old k below is in record { earlier = l.earlier; sending = keeps_push _ _ l.sending })
      (λ is. let l = new is in record { earlier = l.below; sending = keeps_push _ _ l })

pub sent_push : (log : List Happening) (c o l : ℕ) → SentBy (log ++ happening c o Sent l ∷ []) o (length log)
sent_push log c o l =
    let e = get_or_push log (happening c o Sent l) nothing (length log) refl in
    record { below = omega (arith, length_push log (happening c o Sent l)); kind = ap (λ (x : Happening). x.kind) e; owner = ap (λ (x : Happening). x.owner) e }

edges_append : (k : ℕ) (xs ys : List Happening) → edges k (xs ++ ys) ≡ edges k xs ++ edges (k + length xs) ys
edges_append k [] ys = rw add-zero
edges_append k (x ∷ xs) ys =
    go (is_arrival x.kind) (edges_append (suc k) xs ys ∙ ap (λ j. edges (suc k) xs ++ edges j ys) (omega arith))
  where
    go : (b : Bool) → edges (suc k) (xs ++ ys) ≡ edges (suc k) xs ++ edges (k + suc (length xs)) ys →
        cond b (edge x.link k ∷ edges (suc k) (xs ++ ys)) (edges (suc k) (xs ++ ys))
        ≡ cond b (edge x.link k ∷ edges (suc k) xs) (edges (suc k) xs) ++ edges (k + suc (length xs)) ys
    go true e = ap (λ es. edge x.link k ∷ es) e
    go false e = e

edges_push : (log : List Happening) (h : Happening) → edges 0 (log ++ h ∷ []) ≡ edges 0 log ++ cond (is_arrival h.kind) (edge h.link (length log) ∷ []) []
edges_push log h = edges_append 0 log (h ∷ []) ∙ ap (λ j. edges 0 log ++ cond (is_arrival h.kind) (edge h.link j ∷ []) []) (omega arith)

-- a record that is no arrival adds no edge
pub edges_same : (log : List Happening) (h : Happening) → is_arrival h.kind ≡ false → edges 0 (log ++ h ∷ []) ≡ edges 0 log
edges_same log h e = edges_push log h ∙ ap (λ b. edges 0 log ++ cond b (edge h.link (length log) ∷ []) []) e ∙ append-nil (edges 0 log)

pub arrived : (log : List Happening) (c r place : ℕ) → edges 0 (with_linked c r Arrived place log) ≡ edges 0 log ++ edge place (length log) ∷ []
arrived log c r place = edges_push log (happening c r Arrived place)

settles_neither : (a b : Bool) → (a || b) ≡ false → a ≡ false
settles_neither true b e = e
settles_neither false b e = refl

-- one record more that is neither an arrival nor a loss
pub told : (c : ℕ) (log : List Happening) (h : Happening) → h.tick ≡ c → settles h.kind ≡ false → Onward c log (log ++ h ∷ [])
told c log h now no_settling = record {
  keeps = keeps_push log h;
  settled = λ k below. every_push log h (λ k x. settles x.kind ≡ true → (k < length log) × (x ≡ happening_at log k))
      (λ k below is. (below, refl)) (λ is. absurd (clash _ is no_settling)) k below;
  longer = omega (arith, length_push log h);
  same = edges_same log h (settles_neither _ _ no_settling);
  order = order_push log h c now;
}

-- what follows of the links

pub onward_linked : (n c : ℕ) (log log' : List Happening) → Onward c log log' → Linked n log → Linked n log'
onward_linked n c log log' w old k below is =
    let s = w.settled k below (ap (λ b. b || is_loss (happening_at log' k).kind) is) in
    let l = old k s.0 (ap (λ (x : Happening). is_arrival x.kind) (sym s.1) ∙ is) in
    subst (LinkedAt n log' k) (sym s.1) (record { earlier = l.earlier; by = l.by; sending = w.keeps _ _ l.sending; other = l.other })

loss_settles : (a b : Bool) → b ≡ true → (a || b) ≡ true
loss_settles true b e = refl
loss_settles false b e = e

pub onward_losses : (c : ℕ) (log log' : List Happening) → Onward c log log' → LossesLinked log → LossesLinked log'
onward_losses c log log' w old k below is =
    let s = w.settled k below (loss_settles (is_arrival (happening_at log' k).kind) _ is) in
    let l = old k s.0 (ap (λ (x : Happening). is_loss x.kind) (sym s.1) ∙ is) in
    subst (LostAt log' k) (sym s.1) (record { earlier = l.earlier; sending = w.keeps _ _ l.sending })

-- a fold that goes onward at each step goes onward from each of its stops to each later one
module _ {A : Type 0} (c : ℕ) (g : ℕ → List Happening → A → List Happening) (grows : (j : ℕ) (s : List Happening) (x : A) → Onward c s (g j s x)) where
  pub folds_onward : (j i : ℕ) (s : List Happening) (xs : List A) → Onward c s (folds g j i s xs)
  folds_onward j zero s xs = stay c s
  folds_onward j (suc i) s [] = stay c s
  folds_onward j (suc i) s (x ∷ xs) = further c _ _ _ (grows j s x) (folds_onward (suc j) i (g j s x) xs)

  pub folds_between : (j i n : ℕ) (s : List Happening) (xs : List A) → i ≤ n → Onward c (folds g j i s xs) (folds g j n s xs)
  folds_between j zero n s xs h = folds_onward j n s xs
  folds_between j (suc i) zero s xs h = absurd (omega arith)
  folds_between j (suc i) (suc n) s [] h = stay c s
  folds_between j (suc i) (suc n) s (x ∷ xs) h = folds_between (suc j) i n (g j s x) xs (omega arith)
