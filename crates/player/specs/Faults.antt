-- What is told of a file that is not played.
use Rattle.std.specs.Prelude.{◌≡◌, ℕ}
use Rattle.pace.specs.Answers.{pace_refusal_number}
use Rattle.protocol.specs.Plans.{bad_count_number}
use Rattle.orders.specs.Faults.{fault_number}
use Rattle.graphml.specs.Answer.{refusal_number}
use Rattle.player.specs.declared.fault.FileFault.{FileFault}
use Rattle.player.specs.declared.fault.FileFault.TheVariants.{Read, Pace, Plan, Export}

-- the byte place: the record's, otherwise 0
abbrev pub file_byte : FileFault → ℕ
file_byte (Read f) = f.byte
file_byte (Pace e) = 0
file_byte (Plan e) = 0
file_byte (Export e) = 0

-- the number of the question that was answered no
abbrev pub file_number : FileFault → ℕ
file_number (Read f) = fault_number f
file_number (Pace e) = pace_refusal_number e
file_number (Plan e) = bad_count_number e
file_number (Export e) = refusal_number e

-- the number n is told, at the file's first byte, as of what is no record
abbrev pub TellsOfNoRecord : ℕ → FileFault → Type 0
TellsOfNoRecord n f = (file_byte f ≡ 0) × (file_number f ≡ n)
