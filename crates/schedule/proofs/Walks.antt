-- Reading a text, one line more.
use Rattle.std.proofs.Common.{◌≡◌, ℕ, ◌+◌, List, [], ◌∷◌, Some, None, Ok, Err, Option, Result, sym, refl, ap, arith}
use Rattle.orders.specs.declared.order.Order.{Order}
use Rattle.orders.specs.declared.start.Start.{Start}
use Rattle.schedule.specs.declared.complaint.Cause.{Cause}
use Rattle.schedule.specs.declared.complaint.Cause.TheVariants.{NoStart}
use Rattle.schedule.specs.declared.complaint.Complaint.{Complaint}
use Rattle.schedule.specs.Cuts.{line_words}
use Rattle.schedule.specs.Records.{start_in, order_in}
use Rattle.schedule.specs.Texts.{Reading, reading_end, order_reading, order_lines_from, start_reading, start_lines_from}
use Rattle.schedule.specs.Steps.{at_line}

-- the line l is asked for a start
pub start_asked : (n n' : ℕ) (ls ls' : List (List ℕ)) (l : List ℕ) (xs ys : List Order) → ls ≡ l ∷ ls' → n' ≡ n + 1 →
    start_lines_from n ls xs ys ≡ start_reading n' (start_lines_from n' ls' xs ys) (λ s. order_lines_from s n' ls' xs ys) xs ys (start_in (line_words l))
unfolding start_lines_from
start_asked n n' ls ls' l xs ys e c = rw (e, c)

module _ (n : ℕ) (more : Reading) (orders : Start → Reading) (xs ys : List Order) where
  pub start_found : (r : Result (Option Start) Cause) (s : Start) → Ok (Some s) ≡ at_line n r → start_reading n more orders xs ys r ≡ orders s
  start_found (Ok None) s e = absurd (let z : ◌≡◌ {A = ℕ} 0 1 = cc in omega arith)
  start_found (Ok (Some t)) s e = let z : t ≡ s = cc in ap orders z
  start_found (Err x) s e = absurd (let z : ◌≡◌ {A = ℕ} 0 1 = cc in omega arith)

  pub no_words : (r : Result (Option Start) Cause) → Ok None ≡ at_line n r → start_reading n more orders xs ys r ≡ more
  no_words (Ok None) e = refl
  no_words (Ok (Some t)) e = absurd (let z : ◌≡◌ {A = ℕ} 0 1 = cc in omega arith)
  no_words (Err x) e = absurd (let z : ◌≡◌ {A = ℕ} 0 1 = cc in omega arith)

  pub wrong_word : (r : Result (Option Start) Cause) (c : Complaint) → Err c ≡ at_line n r → start_reading n more orders xs ys r ≡ reading_end (Err c.cause) c.line xs ys
  wrong_word (Ok None) c e = absurd (let z : ◌≡◌ {A = ℕ} 0 1 = cc in omega arith)
  wrong_word (Ok (Some t)) c e = absurd (let z : ◌≡◌ {A = ℕ} 0 1 = cc in omega arith)
  wrong_word (Err x) c e =
      let z : c ≡ record { line = n; cause = x } = cc in
      sym (ap (λ (c : Complaint). reading_end (Err c.cause) c.line xs ys) z)

pub start_lacking : (n : ℕ) (ls : List (List ℕ)) (xs ys : List Order) → ls ≡ [] → start_lines_from n ls xs ys ≡ reading_end (Err NoStart) (n + 1) xs ys
unfolding start_lines_from
start_lacking n ls xs ys e = rw e

-- the line l is asked for an order
pub order_asked : (s : Start) (n n' : ℕ) (ls ls' : List (List ℕ)) (l : List ℕ) (xs ys : List Order) → ls ≡ l ∷ ls' → n' ≡ n + 1 →
    order_lines_from s n ls xs ys ≡ order_reading n' (order_lines_from s n' ls') xs ys (order_in (line_words l))
unfolding order_lines_from
order_asked s n n' ls ls' l xs ys e c = rw (e, c)

pub orders_over : (s : Start) (n : ℕ) (ls : List (List ℕ)) (xs ys : List Order) → ls ≡ [] → order_lines_from s n ls xs ys ≡ reading_end (Ok s) n xs ys
unfolding order_lines_from
orders_over s n ls xs ys e = rw e
