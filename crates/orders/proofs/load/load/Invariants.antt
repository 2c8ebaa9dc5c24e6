use Rattle.std.proofs.Common.{◌-◌, length}
use Rattle.std.specs.List.Sorted.{IsNonDecreasingBy}
use Rattle.slots.specs.Slots.{items, spare, Extends}
use Rattle.orders.specs.Loading.{load_outcome, tick_of}
use Rattle.orders.proofs.Loads.{Left}
use Rattle.orders.proofs.load.load.Given as goal

abbrev pub invariant-loop-order : goal.invariant-loop-order
invariant-loop-order l =
    Left l.start l.reader.bytes.now l.reader.at (items l.list) (spare l.list)
    (load_outcome l.bytes (items l.initial.list) (spare l.initial.list))
    × Extends l.initial.list l.list
    × (IsNonDecreasingBy tick_of (items l.initial.list) → IsNonDecreasingBy tick_of (items l.list))

abbrev pub decreases-loop-order : goal.decreases-loop-order
decreases-loop-order l = length l.reader.bytes.now - l.reader.at
