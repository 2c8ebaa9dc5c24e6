-- The reading cut into the calls that do it: how it goes on, or ends, by what a call answered.
use Rattle.std.specs.Prelude.{ℕ, List, Ok, Err, Result}
use Rattle.orders.specs.declared.order.Order.{Order}
use Rattle.orders.specs.declared.start.Start.{Start}
use Rattle.schedule.specs.declared.complaint.Cause.{Cause}
use Rattle.schedule.specs.declared.complaint.Complaint.{Complaint}
use Rattle.schedule.specs.Texts.{Reading, reading_end, order_lines_from}

-- a complaint about a word of line n
module _ {X : Type 0} where
  abbrev pub at_line : ℕ → Result X Cause → Result X Complaint
  at_line n (Ok x) = Ok x
  at_line n (Err e) = Err record { line = n; cause = e }

-- how the reading goes on from line n, once the start was asked for
abbrev pub past_start :
    Result Start Complaint → ℕ → List (List ℕ) → List Order → List Order → Reading
past_start (Ok s) n ls xs ys = order_lines_from s n ls xs ys
past_start (Err c) n ls xs ys = reading_end (Err c.cause) c.line xs ys

-- once a line with an order was
abbrev pub past_line :
    Result (Unit {0}) Complaint → (List Order → List Order → Reading) → List Order → List Order
    → Reading
past_line (Ok u) more xs ys = more xs ys
past_line (Err c) more xs ys = reading_end (Err c.cause) c.line xs ys

-- how it ends, once the orders were
abbrev pub past_orders : Start → Result (Unit {0}) Complaint → ℕ → List Order → List Order → Reading
past_orders s (Ok u) n xs ys = reading_end (Ok s) n xs ys
past_orders s (Err c) n xs ys = reading_end (Err c.cause) c.line xs ys
