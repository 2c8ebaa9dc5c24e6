-- The three legs and their numbers.
use Rattle.std.specs.Prelude.{ℕ, Some, None, Option, ◌==◌, if◌then◌else◌}
use Rattle.protocol.specs.declared.party.Leg.{Leg}
use Rattle.protocol.specs.declared.party.Leg.TheVariants.{Out, Reply, Entry}

abbrev pub leg_number : Leg → ℕ
leg_number Out = 1
leg_number Reply = 2
leg_number Entry = 3

abbrev pub leg_numbered : ℕ → Option Leg
leg_numbered n =
    if n == 1 then Some Out
    else (if n == 2 then Some Reply
    else (if n == 3 then Some Entry else None))
