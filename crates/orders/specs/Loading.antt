-- Reading a whole file into a list.
use Rattle.std.specs.Prelude.{◌≡◌, ℕ, zero, suc, ◌+◌, ◌^◌, ◌<◌, ◌≤◌, List, [], ◌∷◌, ◌++◌, length, drop, Some, None, Ok, Err, Option, Result}
use Rattle.std.specs.List.{All}
use Rattle.slots.specs.declared.refusal.Refusal.{Refusal}
use Rattle.slots.specs.Slots.{append_answer, last_time}
use Rattle.orders.specs.declared.fault.ReadCause.TheVariants.{Append}
use Rattle.orders.specs.declared.fault.ReadFault.{ReadFault}
use Rattle.orders.specs.declared.order.Order.{Order}
use Rattle.orders.specs.declared.start.Start.{Start}
use Rattle.orders.specs.Reading.{fault, order_at, start_at}
use Rattle.orders.specs.Writing.{bytes_of_file}

-- the answer, and what the list and its spare slots then hold
pub record LoadOutcome : Type 0 where
  pub answer : Result Start ReadFault
  pub items : List Order
  pub spare : List Order

abbrev pub tick_of : Order → ℕ
tick_of o = o.tick

-- the loading ends: the list stays as it then is
abbrev pub end_outcome : List Order → List Order → Result Start ReadFault → LoadOutcome
end_outcome xs ys r = record { answer = r; items = xs; spare = ys }

-- an order at a byte place was appended, so that the loading goes on, or the list refused it
abbrev pub append_outcome :
    ℕ → List Order → List Order → LoadOutcome → Result (Unit {0}) Refusal → LoadOutcome
append_outcome at xs ys more (Ok u) = more
append_outcome at xs ys more (Err e) = end_outcome xs ys (Err (fault at (Append e)))

-- the list xs with the spare slots ys meets what was read at a byte place
abbrev pub record_outcome :
    (ℕ → List Order → List Order → LoadOutcome) → Start → ℕ → List Order → List Order
    → Result (Option Order) ReadFault → LoadOutcome
record_outcome more s at xs ys (Ok None) = end_outcome xs ys (Ok s)
record_outcome more s at xs ys (Ok (Some o)) =
    append_outcome at xs ys (more (at + 9) (xs ++ o ∷ []) (drop 1 ys))
    (append_answer tick_of xs ys o)
record_outcome more s at xs ys (Err f) = end_outcome xs ys (Err f)

-- the orders from a byte place on, n at most
unfoldable pub orders_from : ℕ → Start → List ℕ → ℕ → List Order → List Order → LoadOutcome
orders_from zero s bs at xs ys = end_outcome xs ys (Ok s)
orders_from (suc n) s bs at xs ys = record_outcome (orders_from n s bs) s at xs ys (order_at bs at)

-- the start record comes first; there are fewer orders than bytes
abbrev pub start_outcome : List ℕ → List Order → List Order → Result Start ReadFault → LoadOutcome
start_outcome bs xs ys (Ok s) = orders_from (length bs) s bs 14 xs ys
start_outcome bs xs ys (Err f) = end_outcome xs ys (Err f)

-- the file bs, loaded into the list xs with the spare slots ys
abbrev pub load_outcome : List ℕ → List Order → List Order → LoadOutcome
load_outcome bs xs ys = start_outcome bs xs ys (start_at bs 0)

-- the fields of a start have the widths that its record has room for
pub record StartFits (s : Start) : Type 0 where
  pub parties : s.parties < 256
  pub tmin : s.tmin < 2 ^ 32
  pub tmax : s.tmax < 2 ^ 32
  pub cap : s.cap < 256

-- and so do those of an order
pub record OrderFits (o : Order) : Type 0 where
  pub party : o.party < 256
  pub leg : o.leg < 256
  pub tick : o.tick < 2 ^ 32

-- orders of which each fits and none comes before the one in front of it, the first not before t
abbrev pub InOrder : ℕ → List Order → Type 0
InOrder t [] = Unit {0}
InOrder t (o ∷ os) = OrderFits o × (t ≤ o.tick) × InOrder o.tick os

-- a file that was written from a start and orders gives just those, where the list has room for
-- them and their ticks go on from its last
abbrev pub WrittenFilesLoad : Type 0
WrittenFilesLoad =
    (s : Start) (os xs ys : List Order)
    → StartFits s → InOrder (last_time tick_of xs) os → length os ≤ length ys
    → load_outcome (bytes_of_file s os) xs ys ≡ end_outcome (xs ++ os) (drop (length os) ys) (Ok s)

-- and only such a file loads: bytes that give a start are those that it and the orders behind the
-- list's are written as
abbrev pub LoadedFilesAreWritten : Type 0
LoadedFilesAreWritten =
    (file : List ℕ) (s : Start) (xs ys : List Order)
    → All (λ b. b < 256) file → (load_outcome file xs ys).answer ≡ Ok s
    → (os : List Order) × ((load_outcome file xs ys).items ≡ xs ++ os) × (file ≡ bytes_of_file s os)
