-- The orders of a text, and the lines that hold them.
use Rattle.std.proofs.Common.{◌≡◌, ℕ, ◌+◌, ◌-◌, Bool, true, false, if◌then◌else◌, List, [], ◌∷◌, ◌++◌, length, get_or, drop, map, Some, None, Ok, Err, Option, Result, refl, sym, ap, subst, ◌∙◌, arith, length-append}
use Rattle.std.proofs.lemmas.List.{append_assoc, append-nil, map-append, get_or-append-add}
use Rattle.slots.specs.declared.refusal.Refusal.{Refusal}
use Rattle.slots.specs.Slots.{append_answer}
use Rattle.orders.specs.declared.order.Order.{Order}
use Rattle.orders.specs.declared.start.Start.{Start}
use Rattle.orders.specs.Loading.{tick_of}
use Rattle.schedule.specs.declared.complaint.Cause.{Cause}
use Rattle.schedule.specs.Cuts.{lines_in, line_words}
use Rattle.schedule.specs.Words.{number_word}
use Rattle.schedule.specs.Records.{and_then, order_behind, start_in, order_in}
use Rattle.schedule.specs.Texts.{Reading, append_reading, order_reading, order_lines_from, start_reading, start_lines_from}
use Rattle.schedule.specs.Maps.{has_words, worded, MapsOrders}
use Rattle.schedule.proofs.Complained.{start_bare, start_there}

-- the words of the lines that have words
abbrev onto_if : Bool → List (List ℕ) → List (List (List ℕ)) → List (List (List ℕ))
onto_if true ws more = ws ∷ more
onto_if false ws more = more

abbrev records : List (List ℕ) → List (List (List ℕ))
records [] = []
records (l ∷ ls) = onto_if (has_words (line_words l)) (line_words l) (records ls)

-- ---- a record's number leads to its words

abbrev looked_up : List (List ℕ) → ℕ → List (List ℕ)
looked_up ls m = line_words (get_or ls (m - 1) [])

next_front : (front : List (List ℕ)) (l : List ℕ) (ls : List (List ℕ)) → (front ++ l ∷ []) ++ ls ≡ front ++ l ∷ ls
next_front front l ls = append_assoc front (l ∷ []) ls

here : (n : ℕ) (front : List (List ℕ)) (l : List ℕ) (ls : List (List ℕ)) → length front ≡ n → looked_up (front ++ l ∷ ls) (n + 1) ≡ line_words l
here n front l ls e =
    let at : n + 1 - 1 ≡ length front + 0 = omega arith in
    ap (λ k. line_words (get_or (front ++ l ∷ ls) k [])) at ∙ ap line_words (get_or-append-add front (l ∷ ls) 0 [])

-- line n + 1 is looked up where it has words, and the later ones follow
placed_if : (b : Bool) (f : ℕ → List (List ℕ)) (n : ℕ) (ws : List (List ℕ)) (ms : List ℕ) (more : List (List (List ℕ))) → f (n + 1) ≡ ws → map f ms ≡ more →
    map f (if b then ((n + 1) ∷ ms) else ms) ≡ onto_if b ws more
placed_if true f n ws ms more e h = ap (λ z. z ∷ map f ms) e ∙ ap (λ z. ws ∷ z) h
placed_if false f n ws ms more e h = h

placed : (n : ℕ) (front ls : List (List ℕ)) → length front ≡ n → map (looked_up (front ++ ls)) (worded n ls) ≡ records ls
unfolding worded
placed n front [] e = refl
placed n front (l ∷ ls) e =
    let long : length (front ++ l ∷ []) ≡ n + 1 = let a = length-append front (l ∷ []) in omega arith in
    let later = subst (λ z. map (looked_up z) (worded (n + 1) ls) ≡ records ls) (next_front front l ls) (placed (n + 1) (front ++ l ∷ []) ls long) in
    placed_if (has_words (line_words l)) (looked_up (front ++ l ∷ ls)) n (line_words l) (worded (n + 1) ls) (records ls) (here n front l ls e) later

-- ---- what the orders were read from

some_tick : {T : Type 0} → (r : Result T Cause) (more : T → Result Order Cause) → and_then r (λ t. and_then (more t) (λ o. Ok (Some o))) ≡ Ok None → ⊥
some_tick (Ok t) more e = some_order (more t) e where
  some_order : (r : Result Order Cause) → and_then r (λ o. Ok (Some o)) ≡ Ok None → ⊥
  some_order (Ok o) e = let z : ◌≡◌ {A = ℕ} 0 1 = cc in omega arith
  some_order (Err c) e = let z : ◌≡◌ {A = ℕ} 0 1 = cc in omega arith
some_tick (Err c) more e = let z : ◌≡◌ {A = ℕ} 0 1 = cc in omega arith

order_bare : (ws : List (List ℕ)) → order_in ws ≡ Ok None → has_words ws ≡ false
unfolding order_in
order_bare [] e = refl
order_bare (w ∷ ws) e = absurd (some_tick (number_word 4294967295 w) (λ tick. order_behind tick ws) e)

order_there : (ws : List (List ℕ)) (o : Order) → order_in ws ≡ Ok (Some o) → has_words ws ≡ true
unfolding order_in
order_there [] o e = absurd (let z : ◌≡◌ {A = ℕ} 0 1 = cc in omega arith)
order_there (w ∷ ws) o e = refl

abbrev told : List Order → List (Result (Option Order) Cause)
told os = map (λ o. Ok (Some o)) os

abbrev read_off : List (List (List ℕ)) → List (Result (Option Order) Cause)
read_off rs = map order_in rs

module _ (s : Start) where
  abbrev FromLines : List (List ℕ) → List Order → Reading → Type 0
  FromLines ls xs r = r.answer ≡ Ok s → told r.items ≡ told xs ++ read_off (records ls)

  one_more : (l : List ℕ) (ls : List (List ℕ)) (xs : List Order) (o : Order) → order_in (line_words l) ≡ Ok (Some o) →
      told (xs ++ o ∷ []) ++ read_off (records ls) ≡ told xs ++ read_off (records (l ∷ ls))
  one_more l ls xs o e =
      ap (λ z. z ++ read_off (records ls)) (map-append (λ o. Ok (Some o)) xs (o ∷ []))
      ∙ append_assoc (told xs) (Ok (Some o) ∷ []) (read_off (records ls))
      ∙ ap (λ z. told xs ++ z ∷ read_off (records ls)) (sym e)
      ∙ ap (λ b. told xs ++ read_off (onto_if b (line_words l) (records ls))) (sym (order_there (line_words l) o e))

  appended_lines : (l : List ℕ) (ls : List (List ℕ)) (n : ℕ) (xs ys : List Order) (o : Order) (m : Reading) (a : Result (Unit {0}) Refusal) → order_in (line_words l) ≡ Ok (Some o) →
      FromLines ls (xs ++ o ∷ []) m → FromLines (l ∷ ls) xs (append_reading n xs ys m a)
  appended_lines l ls n xs ys o m (Ok u) e k h = k h ∙ one_more l ls xs o e
  appended_lines l ls n xs ys o m (Err x) e k h = absurd (let z : ◌≡◌ {A = ℕ} 0 1 = cc in omega arith)

  met_lines : (l : List ℕ) (ls : List (List ℕ)) (n : ℕ) (more : List Order → List Order → Reading) (xs ys : List Order) (r : Result (Option Order) Cause) → order_in (line_words l) ≡ r →
      ((us vs : List Order) → FromLines ls us (more us vs)) → FromLines (l ∷ ls) xs (order_reading n more xs ys r)
  met_lines l ls n more xs ys (Ok None) e k h =
      k xs ys h ∙ ap (λ b. told xs ++ read_off (onto_if b (line_words l) (records ls))) (sym (order_bare (line_words l) e))
  met_lines l ls n more xs ys (Ok (Some o)) e k h =
      appended_lines l ls n xs ys o (more (xs ++ o ∷ []) (drop 1 ys)) (append_answer tick_of xs ys o) e (k (xs ++ o ∷ []) (drop 1 ys)) h
  met_lines l ls n more xs ys (Err c) e k h = absurd (let z : ◌≡◌ {A = ℕ} 0 1 = cc in omega arith)

  from_lines : (t : Start) (n : ℕ) (ls : List (List ℕ)) (xs ys : List Order) → FromLines ls xs (order_lines_from t n ls xs ys)
  unfolding order_lines_from
  from_lines t n [] xs ys h = sym (append-nil (told xs))
  from_lines t n (l ∷ ls) xs ys h =
      met_lines l ls (n + 1) (order_lines_from t (n + 1) ls) xs ys (order_in (line_words l)) refl (λ us vs. from_lines t (n + 1) ls us vs) h

  -- behind the start's line
  abbrev FromStart : List (List ℕ) → Reading → Type 0
  FromStart ls r = r.answer ≡ Ok s → told r.items ≡ read_off (drop 1 (records ls))

  start_lines : (l : List ℕ) (ls : List (List ℕ)) (n : ℕ) (ys : List Order) (r : Result (Option Start) Cause) → start_in (line_words l) ≡ r → FromStart ls (start_lines_from n ls [] ys) →
      FromStart (l ∷ ls) (start_reading n (start_lines_from n ls [] ys) (λ t. order_lines_from t n ls [] ys) [] ys r)
  start_lines l ls n ys (Ok None) e k h =
      k h ∙ ap (λ b. read_off (drop 1 (onto_if b (line_words l) (records ls)))) (sym (start_bare (line_words l) e))
  start_lines l ls n ys (Ok (Some t)) e k h =
      from_lines t n ls [] ys h ∙ ap (λ b. read_off (drop 1 (onto_if b (line_words l) (records ls)))) (sym (start_there (line_words l) t e))
  start_lines l ls n ys (Err c) e k h = absurd (let z : ◌≡◌ {A = ℕ} 0 1 = cc in omega arith)

  from_start : (n : ℕ) (ls : List (List ℕ)) (ys : List Order) → FromStart ls (start_lines_from n ls [] ys)
  unfolding start_lines_from
  from_start n [] ys h = absurd (let z : ◌≡◌ {A = ℕ} 0 1 = cc in omega arith)
  from_start n (l ∷ ls) ys h = start_lines l ls (n + 1) ys (start_in (line_words l)) refl (from_start (n + 1) ls ys) h

map_map : {A B C : Type 0} → (f : B → C) (g : A → B) (xs : List A) → map f (map g xs) ≡ map (λ x. f (g x)) xs
map_map f g [] = refl
map_map f g (x ∷ xs) = ap (λ z. f (g x) ∷ z) (map_map f g xs)

map_behind : {A B : Type 0} → (f : A → B) (xs : List A) → map f (drop 1 xs) ≡ drop 1 (map f xs)
map_behind f [] = refl
map_behind f (x ∷ xs) = refl

pub maps_orders : MapsOrders
maps_orders text slots s h =
    let ls = lines_in text in
    sym (map_map order_in (looked_up ls) (drop 1 (worded 0 ls)))
    ∙ ap (map order_in) (map_behind (looked_up ls) (worded 0 ls) ∙ ap (drop 1) (placed 0 [] ls refl))
    ∙ sym (from_start s 0 ls slots h)
