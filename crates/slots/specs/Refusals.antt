-- The number of each refusal.
use Rattle.std.specs.Prelude.{ℕ}
use Rattle.slots.specs.declared.refusal.Refusal.{Refusal}
use Rattle.slots.specs.declared.refusal.Refusal.TheVariants.{NoSlot, Earlier}

abbrev pub slot_refusal_number : Refusal → ℕ
slot_refusal_number NoSlot = 12
slot_refusal_number Earlier = 14
