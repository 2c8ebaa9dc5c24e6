-- A complaint about a word, and the misfit on its line.
use Rattle.std.proofs.Common.{◌≡◌, ℕ, ◌+◌, ◌≤◌, Bool, true, false, ◌||◌, List, [], ◌∷◌, ◌++◌, drop, Some, None, Ok, Err, Option, Result, refl, sym, ap, subst, ◌∙◌, arith}
use Rattle.std.specs.Result.{result_err}
use Rattle.slots.specs.declared.refusal.Refusal.{Refusal}
use Rattle.slots.specs.declared.refusal.Refusal.TheVariants.{NoSlot as SlotsTaken, Earlier}
use Rattle.slots.specs.Slots.{append_answer}
use Rattle.orders.specs.declared.order.Order.{Order}
use Rattle.orders.specs.declared.start.Start.{Start}
use Rattle.orders.specs.Loading.{tick_of}
use Rattle.schedule.specs.declared.complaint.Cause.{Cause}
use Rattle.schedule.specs.Causes.{refusal_cause}
use Rattle.schedule.specs.Cuts.{lines_in, line_words}
use Rattle.schedule.specs.Maps.{has_words}
use Rattle.schedule.specs.Words.{group_word}
use Rattle.schedule.specs.Records.{and_then, start_behind, start_in, order_in}
use Rattle.schedule.specs.Texts.{Reading, append_reading, order_reading, order_lines_from, start_reading, start_lines_from}
use Rattle.schedule.specs.Misfits.{is_about_word, cause_told, line_misfit, misfit_at, ComplaintsExplained}
use Rattle.schedule.proofs.Misplaced.{line_reached, line_passed}
use Rattle.schedule.proofs.Explained.{misfits_explain}

-- ---- a line that is refused, or taken

order_wrong : (ws : List (List ℕ)) (c : Cause) → order_in ws ≡ Err c → cause_told (line_misfit true ws) ≡ Some c
unfolding order_in
order_wrong [] c e = absurd (let z : ◌≡◌ {A = ℕ} 0 1 = cc in omega arith)
order_wrong (w ∷ ws) c e = sym (misfits_explain w ws).1 ∙ ap result_err e

start_wrong : (ws : List (List ℕ)) (c : Cause) → start_in ws ≡ Err c → cause_told (line_misfit false ws) ≡ Some c
unfolding start_in
start_wrong [] c e = absurd (let z : ◌≡◌ {A = ℕ} 0 1 = cc in omega arith)
start_wrong (w ∷ ws) c e = sym (misfits_explain w ws).0 ∙ ap result_err e

pub start_there : (ws : List (List ℕ)) (s : Start) → start_in ws ≡ Ok (Some s) → has_words ws ≡ true
unfolding start_in
start_there [] s e = absurd (let z : ◌≡◌ {A = ℕ} 0 1 = cc in omega arith)
start_there (w ∷ ws) s e = refl

some_start : (r : Result Start Cause) → and_then r (λ s. Ok (Some s)) ≡ Ok None → ⊥
some_start (Ok s) e = let z : ◌≡◌ {A = ℕ} 0 1 = cc in omega arith
some_start (Err c) e = let z : ◌≡◌ {A = ℕ} 0 1 = cc in omega arith

some_kind : {K : Type 0} → (r : Result K Cause) (more : K → Result Start Cause) → and_then r (λ k. and_then (more k) (λ s. Ok (Some s))) ≡ Ok None → ⊥
some_kind (Ok k) more e = some_start (more k) e
some_kind (Err c) more e = let z : ◌≡◌ {A = ℕ} 0 1 = cc in omega arith

pub start_bare : (ws : List (List ℕ)) → start_in ws ≡ Ok None → has_words ws ≡ false
unfolding start_in
start_bare [] e = refl
start_bare (w ∷ ws) e = absurd (some_kind (group_word w) (λ kind. start_behind kind ws) e)

-- what an order is refused for by the list is not about a word
not_refused : (x : Refusal) (e : Cause) → ◌≡◌ {A = Result Start Cause} (Err (refusal_cause x)) (Err e) → is_about_word e ≡ true → ⊥
not_refused SlotsTaken e h a = let z : refusal_cause SlotsTaken ≡ e = cc in let y = ap is_about_word z ∙ a in let f : ◌≡◌ {A = ℕ} 0 1 = cc in omega arith
not_refused Earlier e h a = let z : refusal_cause Earlier ≡ e = cc in let y = ap is_about_word z ∙ a in let f : ◌≡◌ {A = ℕ} 0 1 = cc in omega arith

-- ---- the line of a complaint comes behind those that were taken

module _ (e : Cause) where
  abbrev Late : ℕ → Reading → Type 0
  Late n r = r.answer ≡ Err e → n ≤ r.line

  late_appended : (n : ℕ) (xs ys : List Order) (m : Reading) (a : Result (Unit {0}) Refusal) → Late n m → Late n (append_reading n xs ys m a)
  late_appended n xs ys m (Ok u) k h = k h
  late_appended n xs ys m (Err x) k h = omega arith

  late_met : (n : ℕ) (more : List Order → List Order → Reading) (xs ys : List Order) (r : Result (Option Order) Cause) →
      ((us vs : List Order) → Late n (more us vs)) → Late n (order_reading n more xs ys r)
  late_met n more xs ys (Ok None) k h = k xs ys h
  late_met n more xs ys (Ok (Some o)) k h = late_appended n xs ys (more (xs ++ o ∷ []) (drop 1 ys)) (append_answer tick_of xs ys o) (k (xs ++ o ∷ []) (drop 1 ys)) h
  late_met n more xs ys (Err c) k h = omega arith

  late_orders : (s : Start) (n : ℕ) (ls : List (List ℕ)) (xs ys : List Order) → Late (n + 1) (order_lines_from s n ls xs ys)
  unfolding order_lines_from
  late_orders s n [] xs ys h = absurd (let z : ◌≡◌ {A = ℕ} 0 1 = cc in omega arith)
  late_orders s n (l ∷ ls) xs ys h =
      late_met (n + 1) (order_lines_from s (n + 1) ls) xs ys (order_in (line_words l)) (λ us vs k. let z = late_orders s (n + 1) ls us vs k in omega arith) h

  late_start : (n : ℕ) (more : Reading) (orders : Start → Reading) (xs ys : List Order) (r : Result (Option Start) Cause) →
      Late n more → ((s : Start) → Late n (orders s)) → Late n (start_reading n more orders xs ys r)
  late_start n more orders xs ys (Ok None) k o h = k h
  late_start n more orders xs ys (Ok (Some s)) k o h = o s h
  late_start n more orders xs ys (Err c) k o h = omega arith

  late_lines : (n : ℕ) (ls : List (List ℕ)) (xs ys : List Order) → Late (n + 1) (start_lines_from n ls xs ys)
  unfolding start_lines_from
  late_lines n [] xs ys h = omega arith
  late_lines n (l ∷ ls) xs ys h =
      late_start (n + 1) (start_lines_from (n + 1) ls xs ys) (λ s. order_lines_from s (n + 1) ls xs ys) xs ys (start_in (line_words l))
      (λ k. let z = late_lines (n + 1) ls xs ys k in omega arith) (λ s k. let z = late_orders s (n + 1) ls xs ys k in omega arith) h

  -- ---- line by line

  module _ (a : is_about_word e ≡ true) where
    -- the reading r of the lines ls behind line n, of which a misfit is looked for on r's line
    abbrev Explained : Bool → ℕ → List (List ℕ) → Reading → Type 0
    Explained b n ls r = r.answer ≡ Err e → cause_told (misfit_at r.line b n ls) ≡ Some e

    passed : (b : Bool) (n : ℕ) (l : List ℕ) (ls : List (List ℕ)) (r : Reading) → Late (n + 2) r → Explained (b || has_words (line_words l)) (n + 1) ls r → Explained b n (l ∷ ls) r
    passed b n l ls r late k h =
        ap cause_told (line_passed r.line n (n + 1) b (l ∷ ls) ls l refl refl (λ q. let z = late h in omega arith)) ∙ k h

    reached : (b : Bool) (n : ℕ) (l : List ℕ) (ls : List (List ℕ)) (c : Cause) → c ≡ e → cause_told (line_misfit b (line_words l)) ≡ Some c → cause_told (misfit_at (n + 1) b n (l ∷ ls)) ≡ Some e
    reached b n l ls c q k = ap cause_told (line_reached (n + 1) n (n + 1) b (l ∷ ls) ls l refl refl refl) ∙ k ∙ ap Some q

    appended_explained : (n : ℕ) (l : List ℕ) (ls : List (List ℕ)) (xs ys : List Order) (m : Reading) (t : Result (Unit {0}) Refusal) →
        Explained true n (l ∷ ls) m → Explained true n (l ∷ ls) (append_reading (n + 1) xs ys m t)
    appended_explained n l ls xs ys m (Ok u) k h = k h
    appended_explained n l ls xs ys m (Err x) k h = absurd (not_refused x e h a)

    met_explained : (n : ℕ) (l : List ℕ) (ls : List (List ℕ)) (more : List Order → List Order → Reading) (xs ys : List Order) (r : Result (Option Order) Cause) →
        order_in (line_words l) ≡ r → ((us vs : List Order) → Explained true n (l ∷ ls) (more us vs)) → Explained true n (l ∷ ls) (order_reading (n + 1) more xs ys r)
    met_explained n l ls more xs ys (Ok None) q k h = k xs ys h
    met_explained n l ls more xs ys (Ok (Some o)) q k h =
        appended_explained n l ls xs ys (more (xs ++ o ∷ []) (drop 1 ys)) (append_answer tick_of xs ys o) (k (xs ++ o ∷ []) (drop 1 ys)) h
    met_explained n l ls more xs ys (Err c) q k h = let same : c ≡ e = cc in reached true n l ls c same (order_wrong (line_words l) c q)

    orders_explained : (s : Start) (n : ℕ) (ls : List (List ℕ)) (xs ys : List Order) → Explained true n ls (order_lines_from s n ls xs ys)
    unfolding order_lines_from
    orders_explained s n [] xs ys h = absurd (let z : ◌≡◌ {A = ℕ} 0 1 = cc in omega arith)
    orders_explained s n (l ∷ ls) xs ys h =
        met_explained n l ls (order_lines_from s (n + 1) ls) xs ys (order_in (line_words l)) refl (λ us vs.
        passed true n l ls (order_lines_from s (n + 1) ls us vs) (λ k. let z = late_orders s (n + 1) ls us vs k in omega arith) (orders_explained s (n + 1) ls us vs)) h

    start_explained : (n : ℕ) (l : List ℕ) (ls : List (List ℕ)) (xs ys : List Order) (r : Result (Option Start) Cause) → start_in (line_words l) ≡ r →
        Explained false (n + 1) ls (start_lines_from (n + 1) ls xs ys) →
        Explained false n (l ∷ ls) (start_reading (n + 1) (start_lines_from (n + 1) ls xs ys) (λ s. order_lines_from s (n + 1) ls xs ys) xs ys r)
    start_explained n l ls xs ys (Ok None) q k h =
        let bare = start_bare (line_words l) q in
        passed false n l ls (start_lines_from (n + 1) ls xs ys) (λ k. let z = late_lines (n + 1) ls xs ys k in omega arith)
        (subst (λ b. Explained b (n + 1) ls (start_lines_from (n + 1) ls xs ys)) (sym bare) k) h
    start_explained n l ls xs ys (Ok (Some s)) q k h =
        let there = start_there (line_words l) s q in
        passed false n l ls (order_lines_from s (n + 1) ls xs ys) (λ k. let z = late_orders s (n + 1) ls xs ys k in omega arith)
        (subst (λ b. Explained b (n + 1) ls (order_lines_from s (n + 1) ls xs ys)) (sym there) (orders_explained s (n + 1) ls xs ys)) h
    start_explained n l ls xs ys (Err c) q k h = let same : c ≡ e = cc in reached false n l ls c same (start_wrong (line_words l) c q)

    lines_explained : (n : ℕ) (ls : List (List ℕ)) (xs ys : List Order) → Explained false n ls (start_lines_from n ls xs ys)
    unfolding start_lines_from
    lines_explained n [] xs ys h = absurd (let y : ◌≡◌ {A = Bool} false true = cc in let z : ◌≡◌ {A = ℕ} 0 1 = cc in omega arith)
    lines_explained n (l ∷ ls) xs ys h = start_explained n l ls xs ys (start_in (line_words l)) refl (lines_explained (n + 1) ls xs ys) h

pub complaints_explained : ComplaintsExplained
complaints_explained text slots e h a = lines_explained e a 0 (lines_in text) [] slots h
