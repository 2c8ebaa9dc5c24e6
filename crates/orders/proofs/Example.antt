-- The files worked out by hand are those that their starts and orders are written as.
use Rattle.std.proofs.Common.{[], arith}
use Rattle.orders.specs.Example.{ExamplesLoad, bare, long_numbers, each_kind}
use Rattle.orders.specs.Loading.{StartFits, InOrder}
use Rattle.orders.proofs.Loads.{written_files}

bare_fits : StartFits bare.start
bare_fits =
    record { parties = omega arith; tmin = omega arith; tmax = omega arith; cap = omega arith }

long_fits : StartFits long_numbers.start
long_fits =
    record { parties = omega arith; tmin = omega arith; tmax = omega arith; cap = omega arith }

long_in_order : InOrder 0 long_numbers.orders
long_in_order = (record { party = omega arith; leg = omega arith; tick = omega arith }, omega arith, tt)

each_fits : StartFits each_kind.start
each_fits =
    record { parties = omega arith; tmin = omega arith; tmax = omega arith; cap = omega arith }

each_in_order : InOrder 0 each_kind.orders
each_in_order = (
  record { party = omega arith; leg = omega arith; tick = omega arith },
  omega arith,
  (
    record { party = omega arith; leg = omega arith; tick = omega arith },
    omega arith,
    (
      record { party = omega arith; leg = omega arith; tick = omega arith },
      omega arith,
      (
        record { party = omega arith; leg = omega arith; tick = omega arith },
        omega arith,
        (
          record { party = omega arith; leg = omega arith; tick = omega arith },
          omega arith,
          (
            record { party = omega arith; leg = omega arith; tick = omega arith },
            omega arith,
            tt,
          ),
        ),
      ),
    ),
  ),
)

pub examples_load : ExamplesLoad
examples_load = record {
  without_orders = λ slots room. written_files bare.start bare.orders [] slots bare_fits tt room;
  of_long_numbers = λ slots room. written_files long_numbers.start long_numbers.orders [] slots long_fits long_in_order room;
  of_each_kind = λ slots room. written_files each_kind.start each_kind.orders [] slots each_fits each_in_order room;
}
