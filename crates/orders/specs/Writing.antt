-- A record as bytes.
use Rattle.std.specs.Prelude.{ℕ, ◌/◌, ◌%◌, List, [], ◌∷◌, ◌++◌}
use Rattle.std.specs.List.{flat_map}
use Rattle.protocol.specs.Kinds.{group_number}
use Rattle.orders.specs.declared.order.Order.{Order}
use Rattle.orders.specs.declared.start.Start.{Start}
use Rattle.orders.specs.Kinds.{order_number, pace_number}

-- four bytes, highest first
abbrev pub number_bytes : ℕ → List ℕ
number_bytes n = (n / 16777216 % 256) ∷ (n / 65536 % 256) ∷ (n / 256 % 256) ∷ (n % 256) ∷ []

abbrev pub order_bytes : Order → List ℕ
order_bytes o = 0x48 ∷ 0x4F ∷ order_number o.kind ∷ o.party ∷ o.leg ∷ number_bytes o.tick

abbrev pub start_bytes : Start → List ℕ
start_bytes s =
    0x48 ∷ 0x47 ∷ group_number s.kind ∷ s.parties
    ∷ (number_bytes s.tmin ++ (number_bytes s.tmax ++ (pace_number s.pace ∷ s.cap ∷ [])))

-- a file: the start record, and then each order
abbrev pub bytes_of_file : Start → List Order → List ℕ
bytes_of_file s os = start_bytes s ++ flat_map order_bytes os
