-- Order files worked out by hand, byte by byte, and what they say.
use Rattle.std.specs.Prelude.{◌≡◌, ℕ, ◌≤◌, List, [], ◌∷◌, ◌++◌, length, drop, Ok}
use Rattle.protocol.specs.declared.kind.GroupKind.TheVariants.{Closed, Expanding, Dynamic}
use Rattle.orders.specs.declared.order.Order.{Order}
use Rattle.orders.specs.declared.order.OrderKind.TheVariants.{Deliver, Lose, Crash, Join, Leave, Wait}
use Rattle.orders.specs.declared.start.PaceKind.TheVariants.{Halving, TwoPhase}
use Rattle.orders.specs.declared.start.Start.{Start}
use Rattle.orders.specs.Loading.{load_outcome, end_outcome}

-- a file, and what it says
pub record Row : Type 0 where
  pub file : List ℕ
  pub start : Start
  pub orders : List Order

-- a closed group and no order
abbrev pub bare : Row
bare = record {
  file = 0x48 ∷ 0x47 ∷ 1 ∷ 1 ∷ 0 ∷ 0 ∷ 0 ∷ 1 ∷ 0 ∷ 0 ∷ 0 ∷ 10 ∷ 1 ∷ 64 ∷ [];
  start = record { kind = Closed; parties = 1; tmin = 1; tmax = 10; pace = Halving; cap = 64 };
  orders = [];
}

-- an expanding one, whose numbers have four bytes that differ
abbrev pub long_numbers : Row
long_numbers = record {
  file =
      (0x48 ∷ 0x47 ∷ 2 ∷ 32 ∷ 1 ∷ 2 ∷ 3 ∷ 4 ∷ 5 ∷ 6 ∷ 7 ∷ 8 ∷ 2 ∷ 9 ∷ [])
      ++ (0x48 ∷ 0x4F ∷ 6 ∷ 0 ∷ 0 ∷ 10 ∷ 11 ∷ 12 ∷ 13 ∷ []);
  start = record {
    kind = Expanding;
    parties = 32;
    tmin = 16909060;
    tmax = 84281096;
    pace = TwoPhase;
    cap = 9;
  };
  orders = record { kind = Wait; party = 0; leg = 0; tick = 168496141 } ∷ [];
}

-- a dynamic one, and an order of each kind
abbrev pub each_kind : Row
each_kind = record {
  file =
      (0x48 ∷ 0x47 ∷ 3 ∷ 2 ∷ 0 ∷ 0 ∷ 0 ∷ 2 ∷ 0 ∷ 0 ∷ 1 ∷ 0 ∷ 1 ∷ 3 ∷ [])
      ++ (0x48 ∷ 0x4F ∷ 4 ∷ 1 ∷ 0 ∷ 0 ∷ 0 ∷ 0 ∷ 0 ∷ [])
      ++ (0x48 ∷ 0x4F ∷ 1 ∷ 1 ∷ 3 ∷ 0 ∷ 0 ∷ 0 ∷ 2 ∷ [])
      ++ (0x48 ∷ 0x4F ∷ 2 ∷ 1 ∷ 2 ∷ 0 ∷ 0 ∷ 1 ∷ 0 ∷ [])
      ++ (0x48 ∷ 0x4F ∷ 5 ∷ 1 ∷ 0 ∷ 0 ∷ 0 ∷ 1 ∷ 0 ∷ [])
      ++ (0x48 ∷ 0x4F ∷ 3 ∷ 0 ∷ 0 ∷ 0 ∷ 0 ∷ 1 ∷ 1 ∷ [])
      ++ (0x48 ∷ 0x4F ∷ 6 ∷ 0 ∷ 0 ∷ 0 ∷ 0 ∷ 2 ∷ 0 ∷ []);
  start = record { kind = Dynamic; parties = 2; tmin = 2; tmax = 256; pace = Halving; cap = 3 };
  orders =
      record { kind = Join; party = 1; leg = 0; tick = 0 }
      ∷ record { kind = Deliver; party = 1; leg = 3; tick = 2 }
      ∷ record { kind = Lose; party = 1; leg = 2; tick = 256 }
      ∷ record { kind = Leave; party = 1; leg = 0; tick = 256 }
      ∷ record { kind = Crash; party = 0; leg = 0; tick = 257 }
      ∷ record { kind = Wait; party = 0; leg = 0; tick = 512 }
      ∷ [];
}

-- the file of a row loads as its start and its orders, into any slots that have room for them
abbrev pub Stands : Row → Type 0
Stands r =
    (slots : List Order) → length r.orders ≤ length slots
    → load_outcome r.file [] slots
    ≡ end_outcome r.orders (drop (length r.orders) slots) (Ok r.start)

pub record ExamplesLoad : Type 0 where
  pub without_orders : Stands bare
  pub of_long_numbers : Stands long_numbers
  pub of_each_kind : Stands each_kind
