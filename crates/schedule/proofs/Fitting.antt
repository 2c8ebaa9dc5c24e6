-- What was read fits its record, and the ticks never fall.
use Rattle.std.proofs.Common.{◌≡◌, ℕ, ◌+◌, ◌≤◌, Bool, true, false, List, [], ◌∷◌, ◌++◌, length, drop, Some, None, Ok, Err, codes, Option, Result, sym, refl, ap, ◌∙◌, subst, append_assoc, append-nil, one-add, arith}
use Rattle.std.proofs.lemmas.List.{drop-drop}
use Rattle.std.proofs.lemmas.Bool.Decides.{nat_tests}
use Rattle.slots.specs.declared.refusal.Refusal.{Refusal}
use Rattle.slots.specs.Slots.{last_time, append_answer}
use Rattle.slots.proofs.Times.{last_of_appended}
use Rattle.protocol.specs.declared.kind.GroupKind.{GroupKind}
use Rattle.orders.specs.declared.order.Order.{Order}
use Rattle.orders.specs.declared.start.Start.{Start}
use Rattle.orders.specs.Loading.{tick_of, StartFits, OrderFits, InOrder}
use Rattle.schedule.specs.declared.complaint.Cause.{Cause}
use Rattle.schedule.specs.Cuts.{line_words}
use Rattle.schedule.specs.Words.{number_word, group_word, pace_word, order_word, only}
use Rattle.schedule.specs.Records.{next_word, byte_if, words_after_if, no_words, and_then, has_party, has_leg, start_behind, order_behind, start_in, order_in}
use Rattle.schedule.specs.Texts.{Reading, reading_end, append_reading, order_reading, order_lines_from, start_reading, start_lines_from}
use Rattle.schedule.proofs.Numbers.{number_le}
use Rattle.schedule.proofs.Taking.{due_le}

-- what was read, where all came to a good end
passed : {X Y : Type 0} (a : Result X Cause) (more : X → Result Y Cause) (y : Y) → and_then a more ≡ Ok y → (x : X) × (a ≡ Ok x) × (more x ≡ Ok y)
passed (Ok x) more y e = (x, refl, e)
passed (Err c) more y e = absurd (let z : ◌≡◌ {A = ℕ} 0 1 = cc in omega arith)

start_behind_fits : (kind : GroupKind) (w0 : List (List ℕ)) (s : Start) → start_behind kind w0 ≡ Ok s → StartFits s
unfolding start_behind
start_behind_fits kind w0 s e =
    let w1 = drop 1 w0 in
    let w2 = drop 1 w1 in
    let w3 = drop 1 w2 in
    let w5 = drop 1 (drop 1 w3) in
    let p0 = passed (next_word (number_word 255) w0) _ s e in
    let p1 = passed (next_word pace_word w1) _ s p0.2 in
    let p2 = passed (next_word (number_word 4294967295) w2) _ s p1.2 in
    let p3 = passed (next_word (number_word 4294967295) w3) _ s p2.2 in
    let p4 = passed (next_word (only (codes "cap")) (drop 1 w3)) _ s p3.2 in
    let p5 = passed (next_word (number_word 255) w5) _ s p4.2 in
    let p6 = passed (no_words (drop 1 w5)) _ s p5.2 in
    let a = due_le 255 w0 p0.0 p0.1 in
    let b = due_le 4294967295 w2 p2.0 p2.1 in
    let c = due_le 4294967295 w3 p3.0 p3.1 in
    let d = due_le 255 w5 p5.0 p5.1 in
    let z : record { kind = kind; parties = p0.0; tmin = p2.0; tmax = p3.0; pace = p1.0; cap = p5.0 } ≡ s = let last = p6.2 in cc in
    subst (λ (x : Start). StartFits x) z record { parties = omega arith; tmin = omega arith; tmax = omega arith; cap = omega arith }

start_fits : (ws : List (List ℕ)) (s : Start) → start_in ws ≡ Ok (Some s) → StartFits s
unfolding start_in
start_fits [] s e = absurd (let z : ◌≡◌ {A = ℕ} 0 1 = cc in omega arith)
start_fits (w ∷ ws) s e =
    let p = passed (group_word w) _ (Some s) e in
    let q = passed (start_behind p.0 ws) _ (Some s) p.2 in
    let z : q.0 ≡ s = let h = q.2 in cc in
    subst (λ (x : Start). StartFits x) z (start_behind_fits p.0 ws q.0 q.1)

due_if_le : (b : Bool) (ws : List (List ℕ)) (n : ℕ) → byte_if b ws ≡ Ok n → n ≤ 255
unfolding byte_if
due_if_le true ws n e = due_le 255 ws n e
due_if_le false ws n e = let z : 0 ≡ n = cc in omega arith

order_behind_fits : (tick : ℕ) (w0 : List (List ℕ)) (o : Order) → tick ≤ 4294967295 → order_behind tick w0 ≡ Ok o → OrderFits o
unfolding order_behind
order_behind_fits tick w0 o le e =
    let p0 = passed (next_word order_word w0) _ o e in
    let k = p0.0 in
    let w1 = drop 1 w0 in
    let w2 = words_after_if (has_party k) w1 in
    let p1 = passed (byte_if (has_party k) w1) _ o p0.2 in
    let p2 = passed (byte_if (has_leg k) w2) _ o p1.2 in
    let p3 = passed (no_words (words_after_if (has_leg k) w2)) _ o p2.2 in
    let a = due_if_le (has_party k) w1 p1.0 p1.1 in
    let b = due_if_le (has_leg k) w2 p2.0 p2.1 in
    let z : record { kind = k; party = p1.0; leg = p2.0; tick = tick } ≡ o = let last = p3.2 in cc in
    subst (λ (x : Order). OrderFits x) z record { party = omega arith; leg = omega arith; tick = omega arith }

order_fits : (ws : List (List ℕ)) (o : Order) → order_in ws ≡ Ok (Some o) → OrderFits o
unfolding order_in
order_fits [] o e = absurd (let z : ◌≡◌ {A = ℕ} 0 1 = cc in omega arith)
order_fits (w ∷ ws) o e =
    let p = passed (number_word 4294967295 w) _ (Some o) e in
    let q = passed (order_behind p.0 ws) _ (Some o) p.2 in
    let z : q.0 ≡ o = let h = q.2 in cc in
    subst (λ (x : Order). OrderFits x) z (order_behind_fits p.0 ws q.0 (number_le 4294967295 w p.0 p.1) q.1)

-- the orders xs grew by others in order, into the first of the slots ys, and the start is the one that was read
record Grown (s : Start) (xs ys : List Order) (r : Reading) : Type 0 where
  os : List Order
  items : r.items ≡ xs ++ os
  left : r.spare ≡ drop (length os) ys
  rises : InOrder (last_time tick_of xs) os
  start : (t : Start) → r.answer ≡ Ok t → t ≡ s

module _ (s : Start) (n : ℕ) (xs ys : List Order) where
  grown_none : (r : Result Start Cause) → ((t : Start) → r ≡ Ok t → t ≡ s) → Grown s xs ys (reading_end r n xs ys)
  grown_none r h = record { os = []; items = sym (append-nil xs); left = refl; rises = tt; start = h }

  not_early : (o : Order) → append_answer tick_of xs ys o ≡ Ok tt → last_time tick_of xs ≤ o.tick
  not_early o e = grind (arith, nat_tests)

  grown_by : (o : Order) (r : Reading) → OrderFits o → last_time tick_of xs ≤ o.tick → Grown s (xs ++ o ∷ []) (drop 1 ys) r → Grown s xs ys r
  grown_by o r fits le g =
      record {
        os = o ∷ g.os;
        items = g.items ∙ append_assoc xs (o ∷ []) g.os;
        left = g.left ∙ drop-drop (length g.os) 1 ys ∙ ap (λ n. drop n ys) (one-add (length g.os));
        rises = (fits, le, subst (λ t. InOrder t g.os) (last_of_appended tick_of xs o) g.rises);
        start = g.start;
      }

  grown_append : (o : Order) (more : Reading) (a : Result (Unit {0}) Refusal) → a ≡ append_answer tick_of xs ys o → OrderFits o → Grown s (xs ++ o ∷ []) (drop 1 ys) more → Grown s xs ys (append_reading n xs ys more a)
  grown_append o more (Ok u) e fits g = grown_by o more fits (not_early o (sym e)) g
  grown_append o more (Err f) e fits g = grown_none (Err _) (λ t h. absurd (let z : ◌≡◌ {A = ℕ} 0 1 = cc in omega arith))

  grown_line : (ws : List (List ℕ)) (more : List Order → List Order → Reading) → ((zs vs : List Order) → Grown s zs vs (more zs vs)) → (r : Result (Option Order) Cause) → r ≡ order_in ws → Grown s xs ys (order_reading n more xs ys r)
  grown_line ws more g (Ok None) e = g xs ys
  grown_line ws more g (Ok (Some o)) e = grown_append o (more (xs ++ o ∷ []) (drop 1 ys)) (append_answer tick_of xs ys o) refl (order_fits ws o (sym e)) (g (xs ++ o ∷ []) (drop 1 ys))
  grown_line ws more g (Err x) e = grown_none (Err x) (λ t h. absurd (let z : ◌≡◌ {A = ℕ} 0 1 = cc in omega arith))

orders_grown : (s : Start) (n : ℕ) (ls : List (List ℕ)) (xs ys : List Order) → Grown s xs ys (order_lines_from s n ls xs ys)
unfolding order_lines_from
orders_grown s n [] xs ys = grown_none s n xs ys (Ok s) (λ t h. let z : s ≡ t = cc in sym z)
orders_grown s n (l ∷ ls) xs ys = grown_line s (n + 1) xs ys (line_words l) (order_lines_from s (n + 1) ls) (λ zs vs. orders_grown s (n + 1) ls zs vs) (order_in (line_words l)) refl

-- a reading that can be written, and the slots past its orders as they were
pub record Sound (slots : List Order) (r : Reading) : Type 0 where
  pub left : r.spare ≡ drop (length r.items) slots
  pub start : (s : Start) → r.answer ≡ Ok s → StartFits s
  pub rises : InOrder 0 r.items

sound_complaint : (n : ℕ) (ys : List Order) (e : Cause) → Sound ys (reading_end (Err e) n [] ys)
sound_complaint n ys e = record { left = refl; start = λ s h. absurd (let z : ◌≡◌ {A = ℕ} 0 1 = cc in omega arith); rises = tt }

sound_line : (n : ℕ) (ls : List (List ℕ)) (ws : List (List ℕ)) (ys : List Order) (more : Reading) → Sound ys more → (r : Result (Option Start) Cause) → r ≡ start_in ws → Sound ys (start_reading n more (λ s. order_lines_from s n ls [] ys) [] ys r)
sound_line n ls ws ys more h (Ok None) e = h
sound_line n ls ws ys more h (Ok (Some s)) e =
    let g = orders_grown s n ls [] ys in
    record {
      left = g.left ∙ sym (ap (λ (os : List Order). drop (length os) ys) g.items);
      start = λ t a. subst (λ (x : Start). StartFits x) (sym (g.start t a)) (start_fits ws s (sym e));
      rises = subst (λ (os : List Order). InOrder 0 os) (sym g.items) g.rises;
    }
sound_line n ls ws ys more h (Err x) e = sound_complaint n ys x

pub sound : (n : ℕ) (ls : List (List ℕ)) (ys : List Order) → Sound ys (start_lines_from n ls [] ys)
unfolding start_lines_from
sound n [] ys = sound_complaint (n + 1) ys _
sound n (l ∷ ls) ys = sound_line (n + 1) ls (line_words l) ys (start_lines_from (n + 1) ls [] ys) (sound (n + 1) ls ys) (start_in (line_words l)) refl
