-- A text that was rendered reads as what it was rendered from.
use Rattle.std.proofs.Common.{◌≡◌, ℕ, ◌+◌, ◌^◌, ◌<◌, ◌≤◌, Bool, true, false, cond, ◌&&◌, ltb, leb, List, [], ◌∷◌, ◌++◌, map, length, drop, Some, Ok, Err, codes, decimal, sym, refl, ap, ◌∙◌, append_assoc, append-nil, add-zero, one-add, arith, rules}
use Rattle.std.specs.Char.{is_ascii_digit}
use Rattle.std.specs.List.{flat_map}
use Rattle.std.specs.Str.{all_ascii_digits}
use Rattle.std.proofs.lemmas.Fmt.{digits_decimal, digits_value-decimal, decimal_nonempty}
use Rattle.std.proofs.lemmas.List.{drop-drop, length-append, length-drop}
use Rattle.std.proofs.lemmas.Str.Parse.{IsNumeralModel, numerals_by_fold}
use Rattle.std.proofs.lemmas.Bool.{and_parts, and_from, le-leb, ltb-true}
use Rattle.std.proofs.lemmas.Bool.Decides.{nat_tests}
use Rattle.text.specs.Numeral.{read_on}
use Rattle.slots.specs.Slots.{last_time}
use Rattle.slots.proofs.Answering.{says_ok}
use Rattle.slots.proofs.Times.{last_of_appended}
use Rattle.protocol.specs.declared.kind.GroupKind.{GroupKind}
use Rattle.protocol.specs.declared.kind.GroupKind.TheVariants.{Closed, Expanding, Dynamic}
use Rattle.orders.specs.declared.order.Order.{Order}
use Rattle.orders.specs.declared.order.OrderKind.{OrderKind}
use Rattle.orders.specs.declared.order.OrderKind.TheVariants.{Deliver, Lose, Crash, Join, Leave, Wait}
use Rattle.orders.specs.declared.start.PaceKind.{PaceKind}
use Rattle.orders.specs.declared.start.PaceKind.TheVariants.{Halving, TwoPhase}
use Rattle.orders.specs.declared.start.Start.{Start}
use Rattle.orders.specs.Loading.{tick_of, StartFits, OrderFits, InOrder}
use Rattle.schedule.specs.declared.complaint.Cause.TheVariants.{NotANumber, NumberTooLarge}
use Rattle.std.specs.List.{before_first, after_first, join_with_byte}
use Rattle.schedule.specs.Cuts.{begins_comment, ends_line, is_blank, lines_in, words_in, line_words}
use Rattle.schedule.specs.Words.{is_name, number_word, group_word, pace_word, order_word, only}
use Rattle.schedule.specs.Records.{next_word, byte_if, words_after_if, no_words, has_party, has_leg, start_behind, order_behind, start_in, order_in}
use Rattle.schedule.specs.Rendering.{group_name, pace_name, order_name, start_words, number_if, order_words, text_line, text_of, Named, RenderedTextsRead}
use Rattle.schedule.specs.Texts.{reading_end, append_reading, order_reading, order_lines_from, start_reading, start_lines_from}
use Rattle.schedule.proofs.Pieces.{before_cons, after_cons}
use Rattle.schedule.proofs.Taking.{one_word, no_word, one_line, no_line}

-- no byte is a mark
abbrev Without : (ℕ → Bool) → List ℕ → Type 0
Without m [] = Unit {0}
Without m (b ∷ bs) = (m b ≡ false) × Without m bs

module _ (m : ℕ → Bool) where
  before_whole : (bs : List ℕ) → Without m bs → (before_first m bs ≡ bs) × (after_first m bs ≡ [])
  before_whole [] h = (refl, refl)
  before_whole (b ∷ bs) h =
      let q = before_whole bs h.1 in
      (before_cons m b bs ∙ (λ j. cond (h.0 j) [] (b ∷ q.0 j)), after_cons m b bs ∙ (λ j. cond (h.0 j) bs (q.1 j)))

  -- a mark behind them is the first
  before_mark : (bs : List ℕ) (c : ℕ) (more : List ℕ) → Without m bs → m c ≡ true → (before_first m (bs ++ (c ∷ more)) ≡ bs) × (after_first m (bs ++ (c ∷ more)) ≡ more)
  before_mark [] c more h t =
      (before_cons m c more ∙ (λ j. cond (t j) [] (c ∷ before_first m more)), after_cons m c more ∙ (λ j. cond (t j) more (after_first m more)))
  before_mark (b ∷ bs) c more h t =
      let q = before_mark bs c more h.1 t in
      let all = bs ++ (c ∷ more) in
      (before_cons m b all ∙ (λ j. cond (h.0 j) [] (b ∷ q.0 j)), after_cons m b all ∙ (λ j. cond (h.0 j) all (q.1 j)))

  without_append : (bs cs : List ℕ) → Without m bs → Without m cs → Without m (bs ++ cs)
  without_append [] cs h k = k
  without_append (b ∷ bs) cs h k = (h.0, without_append bs cs h.1 k)

-- bytes behind `#`, which mark nothing
abbrev clear : List ℕ → Bool
clear [] = true
clear (b ∷ bs) = ltb 0x23 b && clear bs

module _ (m : ℕ → Bool) (above : (b : ℕ) → 0x23 < b → m b ≡ false) where
  clear_without : (bs : List ℕ) → clear bs ≡ true → Without m bs
  clear_without [] e = tt
  clear_without (b ∷ bs) e = let p = and_parts (ltb 0x23 b) (clear bs) e in (above b (ltb-true 0x23 b p.0), clear_without bs p.1)

-- words of such bytes
abbrev Words : List (List ℕ) → Type 0
Words [] = Unit {0}
Words (w ∷ ws) = (0 < length w) × (clear w ≡ true) × Words ws

no_line_end : (b : ℕ) → 0x23 < b → ends_line b ≡ false
no_line_end b h = grind (arith, nat_tests)

no_comment : (b : ℕ) → 0x23 < b → begins_comment b ≡ false
no_comment b h = grind (arith, nat_tests)

no_blank : (b : ℕ) → 0x23 < b → is_blank b ≡ false
no_blank b h = grind (arith, nat_tests)

spaced_without : (m : ℕ → Bool) → ((b : ℕ) → 0x23 < b → m b ≡ false) → m 0x20 ≡ false → (ws : List (List ℕ)) → Words ws → Without m (join_with_byte 0x20 ws)
spaced_without m a s [] h = tt
spaced_without m a s (w ∷ []) h = clear_without m a w h.1
spaced_without m a s (w ∷ v ∷ ws) h = without_append m w (0x20 ∷ join_with_byte 0x20 (v ∷ ws)) (clear_without m a w h.1) (s, spaced_without m a s (v ∷ ws) h.2)

-- spaced words are cut apart again
words_again : (ws : List (List ℕ)) → Words ws → words_in (join_with_byte 0x20 ws) ≡ ws
words_again [] h = no_word [] refl
words_again (w ∷ []) h =
    let u = before_whole is_blank w (clear_without is_blank no_blank w h.1) in
    let some : 0 < length (before_first is_blank w) = rw u.0 h.0 in
    one_word w h.0 some ∙ ap (λ z. z ∷ words_in (after_first is_blank w)) u.0 ∙ ap (λ z. w ∷ words_in z) u.1 ∙ ap (λ z. w ∷ z) (no_word [] refl)
words_again (w ∷ v ∷ ws) h =
    let rest = join_with_byte 0x20 (v ∷ ws) in
    let all = w ++ (0x20 ∷ rest) in
    let u = before_mark is_blank w 0x20 rest (clear_without is_blank no_blank w h.1) refl in
    let some : 0 < length (before_first is_blank all) = rw u.0 h.0 in
    let long : 0 < length all = simp length-append (omega arith) in
    one_word all long some ∙ ap (λ z. z ∷ words_in (after_first is_blank all)) u.0 ∙ ap (λ z. w ∷ words_in z) u.1 ∙ ap (λ z. w ∷ z) (words_again (v ∷ ws) h.2)

line_again : (ws : List (List ℕ)) → Words ws → line_words (join_with_byte 0x20 ws) ≡ ws
line_again ws h = ap words_in (before_whole begins_comment (join_with_byte 0x20 ws) (spaced_without begins_comment no_comment refl ws h)).0 ∙ words_again ws h

-- a line is cut off
lines_again : (ws : List (List ℕ)) (more : List ℕ) → Words ws → lines_in (text_line ws ++ more) ≡ join_with_byte 0x20 ws ∷ lines_in more
lines_again ws more h =
    let all = join_with_byte 0x20 ws ++ (0x0A ∷ more) in
    let u = before_mark ends_line (join_with_byte 0x20 ws) 0x0A more (spaced_without ends_line no_line_end refl ws h) refl in
    let long : 0 < length all = simp length-append (omega arith) in
    ap lines_in (append_assoc (join_with_byte 0x20 ws) (0x0A ∷ []) more) ∙ one_line all long
    ∙ ap (λ z. z ∷ lines_in (after_first ends_line all)) u.0 ∙ ap (λ z. join_with_byte 0x20 ws ∷ lines_in z) u.1

-- numbers
own : IsNumeralModel (λ ds. all_ascii_digits ds ≡ true) (read_on 0)
own = numerals_by_fold _ (search rules) read_on (search rules)

number_again : (max n : ℕ) → n ≤ max → n < 2 ^ 64 → number_word max (decimal n) ≡ Ok n
unfolding number_word
number_again max n le h =
    let d = digits_decimal own n h in
    let v = digits_value-decimal own n h in
    let t = le-leb n max le in
    let last : cond (leb n max) (Ok n) (Err NumberTooLarge) ≡ Ok n = ap (λ b. cond b (Ok n) (Err NumberTooLarge)) t in
    ap (λ b. cond b (cond (leb (read_on 0 (decimal n)) max) (Ok (read_on 0 (decimal n))) (Err NumberTooLarge)) (Err NotANumber)) d
    ∙ ap (λ k. cond (leb k max) (Ok k) (Err NumberTooLarge)) v ∙ last

digits_clear : (ds : List ℕ) → all_ascii_digits ds ≡ true → clear ds ≡ true
digits_clear [] e = refl
digits_clear (d ∷ ds) e =
    let p = and_parts (is_ascii_digit d) (all_ascii_digits ds) e in
    let q = p.0 in
    let lt : ltb 0x23 d ≡ true = grind (arith, nat_tests) in
    and_from (ltb 0x23 d) (clear ds) lt (digits_clear ds p.1)

decimal_clear : (n : ℕ) → n < 2 ^ 64 → clear (decimal n) ≡ true
decimal_clear n h = digits_clear (decimal n) (digits_decimal own n h)

-- names
group_again : (k : GroupKind) → (0 < length (group_name k)) × (clear (group_name k) ≡ true) × (group_word (group_name k) ≡ Ok k)
unfolding group_word is_name
group_again Closed = (omega arith, refl, refl)
group_again Expanding = (omega arith, refl, refl)
group_again Dynamic = (omega arith, refl, refl)

pace_again : (k : PaceKind) → (0 < length (pace_name k)) × (clear (pace_name k) ≡ true) × (pace_word (pace_name k) ≡ Ok k)
unfolding pace_word is_name
pace_again Halving = (omega arith, refl, refl)
pace_again TwoPhase = (omega arith, refl, refl)

kind_again : (k : OrderKind) → (0 < length (order_name k)) × (clear (order_name k) ≡ true) × (order_word (order_name k) ≡ Ok k)
unfolding order_word is_name
kind_again Deliver = (omega arith, refl, refl)
kind_again Lose = (omega arith, refl, refl)
kind_again Crash = (omega arith, refl, refl)
kind_again Join = (omega arith, refl, refl)
kind_again Leave = (omega arith, refl, refl)
kind_again Wait = (omega arith, refl, refl)

cap_again : Ok tt ≡ only (codes "cap") (codes "cap")
unfolding only is_name
cap_again = refl

-- the start
start_again : (s : Start) → StartFits s → start_in (start_words s) ≡ Ok (Some s)
unfolding start_in start_behind next_word no_words
start_again s f =
    let k = (group_again s.kind).2 in
    let n = number_again 255 s.parties (omega arith) (omega arith) in
    let p = (pace_again s.pace).2 in
    let t = number_again 4294967295 s.tmin (omega arith) (omega arith) in
    let u = number_again 4294967295 s.tmax (omega arith) (omega arith) in
    let c = sym cap_again in
    let m = number_again 255 s.cap (omega arith) (omega arith) in
    simp (k, n, p, t, u, c, m)

word : (w : List ℕ) (ws : List (List ℕ)) → 0 < length w → clear w ≡ true → Words ws → Words (w ∷ ws)
word w ws a b h = (a, b, h)

decimal_word : (n : ℕ) (ws : List (List ℕ)) → n < 2 ^ 64 → Words ws → Words (decimal n ∷ ws)
decimal_word n ws h k = word (decimal n) ws (decimal_nonempty n h) (decimal_clear n h) k

start_clear : (s : Start) → StartFits s → Words (start_words s)
start_clear s f =
    let k = group_again s.kind in
    let p = pace_again s.pace in
    let v6 = decimal s.cap ∷ [] in
    let v5 = codes "cap" ∷ v6 in
    let v4 = decimal s.tmax ∷ v5 in
    let v3 = decimal s.tmin ∷ v4 in
    let v2 = pace_name s.pace ∷ v3 in
    let v1 = decimal s.parties ∷ v2 in
    let w6 = decimal_word s.cap [] (omega arith) tt in
    let w5 = word (codes "cap") v6 (omega arith) refl w6 in
    let w4 = decimal_word s.tmax v5 (omega arith) w5 in
    let w3 = decimal_word s.tmin v4 (omega arith) w4 in
    let w2 = word (pace_name s.pace) v3 p.0 p.1 w3 in
    let w1 = decimal_word s.parties v2 (omega arith) w2 in
    word (group_name s.kind) v1 k.0 k.1 w1

-- a byte that the order names, or 0
due_again : (b : Bool) (n : ℕ) (ws : List (List ℕ)) → n ≤ 255 → (b ≡ false → n ≡ 0) → (Ok n ≡ byte_if b (number_if b n ws)) × (ws ≡ words_after_if b (number_if b n ws))
unfolding byte_if next_word
due_again true n ws le z = (sym (number_again 255 n le (omega arith)), refl)
due_again false n ws le z = (ap Ok (z refl), refl)

named_clear : (b : Bool) (n : ℕ) (ws : List (List ℕ)) → n ≤ 255 → Words ws → Words (number_if b n ws)
named_clear true n ws le h = decimal_word n ws (omega arith) h
named_clear false n ws le h = h

-- an order
module _ (o : Order) (f : OrderFits o) where
  order_clear : Words (order_words o)
  order_clear =
      let k = kind_again o.kind in
      let v3 = number_if (has_leg o.kind) o.leg [] in
      let v2 = number_if (has_party o.kind) o.party v3 in
      let w3 = named_clear (has_leg o.kind) o.leg [] (omega arith) tt in
      let w2 = named_clear (has_party o.kind) o.party v3 (omega arith) w3 in
      let w1 = word (order_name o.kind) v2 k.0 k.1 w2 in
      decimal_word o.tick (order_name o.kind ∷ v2) (omega arith) w1

  order_again : (has_party o.kind ≡ false → o.party ≡ 0) → (has_leg o.kind ≡ false → o.leg ≡ 0) → order_in (order_words o) ≡ Ok (Some o)
  unfolding order_in order_behind next_word no_words
  order_again p l =
      let t = number_again 4294967295 o.tick (omega arith) (omega arith) in
      let k = (kind_again o.kind).2 in
      let a = due_again (has_party o.kind) o.party (number_if (has_leg o.kind) o.leg []) (omega arith) p in
      let b = due_again (has_leg o.kind) o.leg [] (omega arith) l in
      let a0 = sym a.0 in
      let a1 = sym a.1 in
      let b0 = sym b.0 in
      let b1 = sym b.1 in
      simp (t, k, a0, a1, b0, b1)

abbrev order_lines : List Order → List (List ℕ)
order_lines os = map (λ o. join_with_byte 0x20 (order_words o)) os

-- the orders' lines
lines_of : (t : ℕ) (os : List Order) → InOrder t os → lines_in (flat_map (λ o. text_line (order_words o)) os) ≡ order_lines os
lines_of t [] h = no_line [] refl
lines_of t (o ∷ os) h =
    lines_again (order_words o) (flat_map (λ o. text_line (order_words o)) os) (order_clear o h.0) ∙ ap (λ z. join_with_byte 0x20 (order_words o) ∷ z) (lines_of o.tick os h.2)

orders_again : (os : List Order) (s : Start) (n : ℕ) (xs ys : List Order) → InOrder (last_time tick_of xs) os → Named os → length os ≤ length ys →
    order_lines_from s n (order_lines os) xs ys ≡ reading_end (Ok s) (n + length os) (xs ++ os) (drop (length os) ys)
unfolding order_lines_from
orders_again [] s n xs ys t z room = rw (add-zero, append-nil)
orders_again (o ∷ os) s n xs ys t z room =
    let e : order_in (line_words (join_with_byte 0x20 (order_words o))) ≡ Ok (Some o) = ap order_in (line_again (order_words o) (order_clear o t.0)) ∙ order_again o t.0 z.0 z.1 in
    let k = says_ok tick_of xs ys o (omega arith) t.1 in
    let more = order_lines_from s (n + 1) (order_lines os) in
    let last : n + 1 + length os ≡ n + length (o ∷ os) = omega arith in
    ap (λ r. order_reading (n + 1) more xs ys r) e
    ∙ ap (λ r. append_reading (n + 1) xs ys (more (xs ++ o ∷ []) (drop 1 ys)) r) (sym k)
    ∙ orders_again os s (n + 1) (xs ++ o ∷ []) (drop 1 ys) (rw last_of_appended t.2) z.2 (simp length-drop (omega arith))
    ∙ ap (λ i. reading_end (Ok s) i ((xs ++ o ∷ []) ++ os) (drop (length os) (drop 1 ys))) last
    ∙ rw (append_assoc, drop-drop, one-add)

pub rendered_texts : RenderedTextsRead
unfolding start_lines_from
rendered_texts s os slots f t z room =
    let ws = start_words s in
    let ok = start_clear s f in
    let cut : lines_in (text_of s os) ≡ join_with_byte 0x20 ws ∷ order_lines os =
    lines_again ws (flat_map (λ o. text_line (order_words o)) os) ok ∙ ap (λ ls. join_with_byte 0x20 ws ∷ ls) (lines_of 0 os t) in
    let e : start_in (line_words (join_with_byte 0x20 ws)) ≡ Ok (Some s) = ap start_in (line_again ws ok) ∙ start_again s f in
    let ls = order_lines os in
    ap (λ ls. start_lines_from 0 ls [] slots) cut
    ∙ ap (λ r. start_reading 1 (start_lines_from 1 ls [] slots) (λ s. order_lines_from s 1 ls [] slots) [] slots r) e
    ∙ orders_again os s 1 [] slots t z room
