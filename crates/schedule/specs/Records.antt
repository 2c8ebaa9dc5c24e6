-- What the words of a line read as: a start or an order, or the first word that is wrong.
use Rattle.std.specs.Prelude.{ℕ, Bool, true, false, List, [], ◌∷◌, drop, Some, None, Ok, Err, codes, Option, Result}
use Rattle.protocol.specs.declared.kind.GroupKind.{GroupKind}
use Rattle.orders.specs.declared.order.Order.{Order}
use Rattle.orders.specs.declared.order.OrderKind.{OrderKind}
use Rattle.orders.specs.declared.order.OrderKind.TheVariants.{Deliver, Lose, Crash, Join, Leave, Wait}
use Rattle.orders.specs.declared.start.Start.{Start}
use Rattle.schedule.specs.declared.complaint.Cause.{Cause}
use Rattle.schedule.specs.declared.complaint.Cause.TheVariants.{MissingWord, WordTooMany}
use Rattle.schedule.specs.Words.{number_word, group_word, pace_word, order_word, only}

module _ {X : Type 0} where
  -- the next word, as `read` takes it
  unfoldable pub next_word : (List ℕ → Result X Cause) → List (List ℕ) → Result X Cause
  next_word read [] = Err MissingWord
  next_word read (w ∷ ws) = read w

-- a byte, where the record has one at this place; otherwise 0, and no word is taken
unfoldable pub byte_if : Bool → List (List ℕ) → Result ℕ Cause
byte_if true ws = next_word (number_word 255) ws
byte_if false ws = Ok 0

abbrev pub words_after_if : Bool → List (List ℕ) → List (List ℕ)
words_after_if true ws = drop 1 ws
words_after_if false ws = ws

-- no word is left
unfoldable pub no_words : List (List ℕ) → Result (Unit {0}) Cause
no_words [] = Ok tt
no_words (w ∷ ws) = Err WordTooMany

module _ {X Y : Type 0} where
  -- goes on with what was read, or ends at the first complaint
  abbrev pub and_then : Result X Cause → (X → Result Y Cause) → Result Y Cause
  and_then (Ok x) more = more x
  and_then (Err e) more = Err e

-- the words behind the group kind
unfoldable pub start_behind : GroupKind → List (List ℕ) → Result Start Cause
start_behind kind ws0 =
    and_then (next_word (number_word 255) ws0) (λ parties. let ws1 = drop 1 ws0 in
    and_then (next_word pace_word ws1) (λ pace. let ws2 = drop 1 ws1 in
    and_then (next_word (number_word 4294967295) ws2) (λ tmin. let ws3 = drop 1 ws2 in
    and_then (next_word (number_word 4294967295) ws3) (λ tmax. let ws4 = drop 1 ws3 in
    and_then (next_word (only (codes "cap")) ws4) (λ u. let ws5 = drop 1 ws4 in
    and_then (next_word (number_word 255) ws5) (λ m. let ws6 = drop 1 ws5 in
    and_then (no_words ws6) (λ v.
    Ok record {
      kind = kind;
      parties = parties;
      tmin = tmin;
      tmax = tmax;
      pace = pace;
      cap = m;
    })))))))

-- which kinds of order name a party, and which a leg too
abbrev pub has_party : OrderKind → Bool
has_party Deliver = true
has_party Lose = true
has_party Crash = true
has_party Join = true
has_party Leave = true
has_party Wait = false

abbrev pub has_leg : OrderKind → Bool
has_leg Deliver = true
has_leg Lose = true
has_leg Crash = false
has_leg Join = false
has_leg Leave = false
has_leg Wait = false

-- the words behind the tick
unfoldable pub order_behind : ℕ → List (List ℕ) → Result Order Cause
order_behind tick ws0 =
    and_then (next_word order_word ws0) (λ kind. let ws1 = drop 1 ws0 in
    and_then (byte_if (has_party kind) ws1) (λ party.
    let ws2 = words_after_if (has_party kind) ws1 in
    and_then (byte_if (has_leg kind) ws2) (λ leg.
    let ws3 = words_after_if (has_leg kind) ws2 in
    and_then (no_words ws3) (λ u.
    Ok record { kind = kind; party = party; leg = leg; tick = tick }))))

-- the start in a line of these words; none in a line without words
unfoldable pub start_in : List (List ℕ) → Result (Option Start) Cause
start_in [] = Ok None
start_in (w ∷ ws) =
    and_then (group_word w) (λ kind. and_then (start_behind kind ws) (λ s. Ok (Some s)))

-- the order in a line of these words; none in a line without words
unfoldable pub order_in : List (List ℕ) → Result (Option Order) Cause
order_in [] = Ok None
order_in (w ∷ ws) =
    and_then (number_word 4294967295 w) (λ tick. and_then (order_behind tick ws) (λ o. Ok (Some o)))
