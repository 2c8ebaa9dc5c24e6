use Rattle.std.proofs.Common.{take}
use Rattle.std.specs.List.{flat_map}
use Rattle.text.proofs.Placed.{Reached}
use Rattle.orders.specs.Writing.{order_bytes}
use Rattle.schedule.proofs.write.write_orders.Given as goal

abbrev pub invariant-loop-order : goal.invariant-loop-order
invariant-loop-order l = Reached l.initial.out l.from (flat_map order_bytes (take l.order-index l.orders)) l.out l.at
