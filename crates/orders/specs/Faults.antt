-- The number of the question to which a fault is the answer no.
use Rattle.std.specs.Prelude.{ℕ}
use Rattle.slots.specs.Refusals.{slot_refusal_number}
use Rattle.orders.specs.declared.fault.ReadCause.{ReadCause}
use Rattle.orders.specs.declared.fault.ReadCause.TheVariants.{NotWhole, Unknown, Append}
use Rattle.orders.specs.declared.fault.ReadFault.{ReadFault}

abbrev pub cause_number : ReadCause → ℕ
cause_number NotWhole = 15
cause_number Unknown = 16
cause_number (Append r) = slot_refusal_number r

abbrev pub fault_number : ReadFault → ℕ
fault_number f = cause_number f.cause
