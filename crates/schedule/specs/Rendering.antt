-- A start and orders as a text, and that such a text reads as just those.
use Rattle.std.specs.Prelude.{◌≡◌, ℕ, ◌+◌, ◌≤◌, Bool, true, false, List, [], ◌∷◌, ◌++◌, length, drop, Ok, codes, decimal}
use Rattle.std.specs.List.{flat_map, join_with_byte}
use Rattle.protocol.specs.declared.kind.GroupKind.{GroupKind}
use Rattle.protocol.specs.declared.kind.GroupKind.TheVariants.{Closed, Expanding, Dynamic}
use Rattle.orders.specs.declared.order.Order.{Order}
use Rattle.orders.specs.declared.order.OrderKind.{OrderKind}
use Rattle.orders.specs.declared.order.OrderKind.TheVariants.{Deliver, Lose, Crash, Join, Leave, Wait}
use Rattle.orders.specs.declared.start.PaceKind.{PaceKind}
use Rattle.orders.specs.declared.start.PaceKind.TheVariants.{Halving, TwoPhase}
use Rattle.orders.specs.declared.start.Start.{Start}
use Rattle.orders.specs.Loading.{StartFits, InOrder}
use Rattle.schedule.specs.Records.{has_party, has_leg}
use Rattle.schedule.specs.Texts.{reading_end, reading_of}

abbrev pub group_name : GroupKind → List ℕ
group_name Closed = codes "closed"
group_name Expanding = codes "expanding"
group_name Dynamic = codes "dynamic"

abbrev pub pace_name : PaceKind → List ℕ
pace_name Halving = codes "halving"
pace_name TwoPhase = codes "two-phase"

abbrev pub order_name : OrderKind → List ℕ
order_name Deliver = codes "deliver"
order_name Lose = codes "lose"
order_name Crash = codes "crash"
order_name Join = codes "join"
order_name Leave = codes "leave"
order_name Wait = codes "wait"

abbrev pub start_words : Start → List (List ℕ)
start_words s =
    group_name s.kind ∷ decimal s.parties ∷ pace_name s.pace ∷ decimal s.tmin ∷ decimal s.tmax
    ∷ codes "cap" ∷ decimal s.cap ∷ []

-- a number in front of other words, where the order names it
abbrev pub number_if : Bool → ℕ → List (List ℕ) → List (List ℕ)
number_if true n ws = decimal n ∷ ws
number_if false n ws = ws

abbrev pub order_words : Order → List (List ℕ)
order_words o =
    decimal o.tick ∷ order_name o.kind
    ∷ number_if (has_party o.kind) o.party (number_if (has_leg o.kind) o.leg [])

-- words with a space between them, and a line's end
abbrev pub text_line : List (List ℕ) → List ℕ
text_line ws = join_with_byte 0x20 ws ++ (0x0A ∷ [])

-- a line for the start, and one for each order
abbrev pub text_of : Start → List Order → List ℕ
text_of s os = text_line (start_words s) ++ flat_map (λ o. text_line (order_words o)) os

-- what an order does not name is 0
abbrev pub Named : List Order → Type 0
Named [] = Unit {0}
Named (o ∷ os) =
    (has_party o.kind ≡ false → o.party ≡ 0) × (has_leg o.kind ≡ false → o.leg ≡ 0) × Named os

-- what was rendered reads as itself, to its last line
abbrev pub RenderedTextsRead : Type 0
RenderedTextsRead =
    (s : Start) (os slots : List Order)
    → StartFits s → InOrder 0 os → Named os → length os ≤ length slots
    → reading_of (text_of s os) slots
    ≡ reading_end (Ok s) (1 + length os) os (drop (length os) slots)
