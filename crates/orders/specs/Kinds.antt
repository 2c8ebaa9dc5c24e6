-- The number of each order and pace, and what each number stands for.
use Rattle.std.specs.Prelude.{ℕ, if◌then◌else◌, Some, None, Option, ◌==◌}
use Rattle.orders.specs.declared.order.OrderKind.{OrderKind}
use Rattle.orders.specs.declared.order.OrderKind.TheVariants.{Deliver, Lose, Crash, Join, Leave, Wait}
use Rattle.orders.specs.declared.start.PaceKind.{PaceKind}
use Rattle.orders.specs.declared.start.PaceKind.TheVariants.{Halving, TwoPhase}

abbrev pub pace_number : PaceKind → ℕ
pace_number Halving = 1
pace_number TwoPhase = 2

abbrev pub pace_kind : ℕ → Option PaceKind
pace_kind b =
    if b == 1 then Some Halving else
    (if b == 2 then Some TwoPhase else None)

abbrev pub order_number : OrderKind → ℕ
order_number Deliver = 1
order_number Lose = 2
order_number Crash = 3
order_number Join = 4
order_number Leave = 5
order_number Wait = 6

abbrev pub order_kind : ℕ → Option OrderKind
order_kind b =
    if b == 1 then Some Deliver else
    (if b == 2 then Some Lose else
    (if b == 3 then Some Crash else
    (if b == 4 then Some Join else
    (if b == 5 then Some Leave else
    (if b == 6 then Some Wait else None)))))
