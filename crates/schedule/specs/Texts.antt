-- What a whole text reads as.
use Rattle.std.specs.Prelude.{ℕ, ◌+◌, List, [], ◌∷◌, ◌++◌, drop, Some, None, Ok, Err, Option, Result}
use Rattle.slots.specs.declared.refusal.Refusal.{Refusal}
use Rattle.slots.specs.Slots.{append_answer}
use Rattle.orders.specs.declared.order.Order.{Order}
use Rattle.orders.specs.declared.start.Start.{Start}
use Rattle.orders.specs.Loading.{tick_of}
use Rattle.schedule.specs.declared.complaint.Cause.{Cause}
use Rattle.schedule.specs.declared.complaint.Cause.TheVariants.{NoStart}
use Rattle.schedule.specs.Causes.{refusal_cause}
use Rattle.schedule.specs.Cuts.{lines_in, line_words}
use Rattle.schedule.specs.Records.{start_in, order_in}

-- the start or a complaint's cause, the line at which the reading ended, the orders up to there,
-- and what the slots past them hold
pub record Reading : Type 0 where
  pub answer : Result Start Cause
  pub line : ℕ
  pub items : List Order
  pub spare : List Order

-- the reading ends
abbrev pub reading_end : Result Start Cause → ℕ → List Order → List Order → Reading
reading_end r n xs ys = record { answer = r; line = n; items = xs; spare = ys }

-- the order of line n meets the orders xs and the spare slots ys
abbrev pub append_reading :
    ℕ → List Order → List Order → Reading → Result (Unit {0}) Refusal → Reading
append_reading n xs ys more (Ok u) = more
append_reading n xs ys more (Err e) = reading_end (Err (refusal_cause e)) n xs ys

-- what line n holds: no word, an order, or a word that is wrong
abbrev pub order_reading :
    ℕ → (List Order → List Order → Reading) → List Order → List Order → Result (Option Order) Cause
    → Reading
order_reading n more xs ys (Ok None) = more xs ys
order_reading n more xs ys (Ok (Some o)) =
    append_reading n xs ys (more (xs ++ o ∷ []) (drop 1 ys)) (append_answer tick_of xs ys o)
order_reading n more xs ys (Err e) = reading_end (Err e) n xs ys

-- the lines behind the start, of which the last one before them is line n
unfoldable pub order_lines_from : Start → ℕ → List (List ℕ) → List Order → List Order → Reading
order_lines_from s n [] xs ys = reading_end (Ok s) n xs ys
order_lines_from s n (l ∷ ls) xs ys =
    order_reading (n + 1) (order_lines_from s (n + 1) ls) xs ys (order_in (line_words l))

-- what line n holds, as long as no start was read
abbrev pub start_reading :
    ℕ → Reading → (Start → Reading) → List Order → List Order → Result (Option Start) Cause
    → Reading
start_reading n more orders xs ys (Ok None) = more
start_reading n more orders xs ys (Ok (Some s)) = orders s
start_reading n more orders xs ys (Err e) = reading_end (Err e) n xs ys

-- the lines behind line n, no start having been read
unfoldable pub start_lines_from : ℕ → List (List ℕ) → List Order → List Order → Reading
start_lines_from n [] xs ys = reading_end (Err NoStart) (n + 1) xs ys
start_lines_from n (l ∷ ls) xs ys =
    start_reading (n + 1) (start_lines_from (n + 1) ls xs ys)
    (λ s. order_lines_from s (n + 1) ls xs ys) xs ys (start_in (line_words l))

-- the whole text, read into these slots
abbrev pub reading_of : List ℕ → List Order → Reading
reading_of text slots = start_lines_from 0 (lines_in text) [] slots
