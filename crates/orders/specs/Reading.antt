-- What the bytes at a place read as.
use Rattle.std.specs.Prelude.{ℕ, ◌+◌, ◌*◌, Bool, if◌then◌else◌, ◌&&◌, List, [], ◌∷◌, length, Some, None, Ok, Err, Option, Result, ◌==◌, nat_le, slice_index}
use Rattle.protocol.specs.declared.kind.GroupKind.{GroupKind}
use Rattle.protocol.specs.Kinds.{group_kind}
use Rattle.orders.specs.declared.fault.ReadCause.{ReadCause}
use Rattle.orders.specs.declared.fault.ReadCause.TheVariants.{NotWhole, Unknown}
use Rattle.orders.specs.declared.fault.ReadFault.{ReadFault}
use Rattle.orders.specs.declared.order.Order.{Order}
use Rattle.orders.specs.declared.order.OrderKind.{OrderKind}
use Rattle.orders.specs.declared.start.PaceKind.{PaceKind}
use Rattle.orders.specs.declared.start.Start.{Start}
use Rattle.orders.specs.Kinds.{order_kind, pace_kind}

-- the number in four bytes, highest first
abbrev pub number_at : List ℕ → ℕ → ℕ
number_at bs i =
    slice_index bs i * 16777216 + slice_index bs (i + 1) * 65536
    + slice_index bs (i + 2) * 256 + slice_index bs (i + 3)

-- `size` bytes, of which the first two are the mark
abbrev pub is_whole : List ℕ → ℕ → List ℕ → ℕ → Bool
is_whole mark size bs at =
    nat_le (at + size) (length bs)
    && (slice_index bs at == slice_index mark 0 && slice_index bs (at + 1) == slice_index mark 1)

abbrev pub fault : ℕ → ReadCause → ReadFault
fault at c = record { byte = at; cause = c }

module _ {X : Type 0} where
  -- a cause, with the place of its record beside it
  abbrev pub with_place : ℕ → Result X ReadCause → Result X ReadFault
  with_place at (Ok x) = Ok x
  with_place at (Err c) = Err (fault at c)

-- an order by its kind, if that is known
abbrev pub order_of : List ℕ → ℕ → Option OrderKind → Result (Option Order) ReadFault
order_of bs at None = Err (fault at Unknown)
order_of bs at (Some k) =
    Ok (Some record {
      kind = k;
      party = slice_index bs (at + 3);
      leg = slice_index bs (at + 4);
      tick = number_at bs (at + 5);
    })

-- the order at a place, none at the end, or what is wrong with the record there
abbrev pub order_at : List ℕ → ℕ → Result (Option Order) ReadFault
order_at bs at =
    if at == length bs then Ok None else
    (if is_whole (0x48 ∷ 0x4F ∷ []) 9 bs at
    then order_of bs at (order_kind (slice_index bs (at + 2)))
    else Err (fault at NotWhole))

-- a start record by its group kind and its pace, if those are known
abbrev pub start_of : List ℕ → ℕ → Option GroupKind → Option PaceKind → Result Start ReadFault
start_of bs at None p = Err (fault at Unknown)
start_of bs at (Some k) None = Err (fault at Unknown)
start_of bs at (Some k) (Some p) =
    Ok record {
      kind = k;
      parties = slice_index bs (at + 3);
      tmin = number_at bs (at + 4);
      tmax = number_at bs (at + 8);
      pace = p;
      cap = slice_index bs (at + 13);
    }

-- the start record at a place, or what is wrong with it
abbrev pub start_at : List ℕ → ℕ → Result Start ReadFault
start_at bs at =
    if is_whole (0x48 ∷ 0x47 ∷ []) 14 bs at
    then start_of bs at
    (group_kind (slice_index bs (at + 2))) (pace_kind (slice_index bs (at + 12)))
    else Err (fault at NotWhole)

-- where the next record begins: a record that was read is passed
abbrev pub place_after_order : Result (Option Order) ReadFault → ℕ → ℕ
place_after_order (Ok (Some o)) at = at + 9
place_after_order (Ok None) at = at
place_after_order (Err f) at = at

abbrev pub place_after_start : Result Start ReadFault → ℕ → ℕ
place_after_start (Ok s) at = at + 14
place_after_start (Err f) at = at
