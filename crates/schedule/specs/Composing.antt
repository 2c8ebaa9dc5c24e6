-- What comes of a text: the answer, and what the output then holds.
use Rattle.std.specs.Prelude.{◌≡◌, ℕ, ◌+◌, ◌≤◌, if◌then◌else◌, List, [], ◌++◌, length, drop, Ok, Err, Result, nat_le}
use Rattle.orders.specs.declared.order.Order.{Order}
use Rattle.orders.specs.declared.start.Start.{Start}
use Rattle.orders.specs.Loading.{load_outcome, end_outcome}
use Rattle.orders.specs.Writing.{bytes_of_file}
use Rattle.schedule.specs.declared.complaint.Cause.{Cause}
use Rattle.schedule.specs.declared.complaint.Cause.TheVariants.{NoRoom}
use Rattle.schedule.specs.declared.complaint.Complaint.{Complaint}
use Rattle.schedule.specs.Texts.{Reading}

-- the output with a file at its front; later bytes keep what they held
abbrev pub with_file : List ℕ → List ℕ → List ℕ
with_file file out = file ++ drop (length file) out

-- a file that fits is answered by its size; where it does not fit, the complaint is about the line
-- behind the last one
abbrev pub answer_of : Result Start Cause → ℕ → List Order → (room : ℕ) → Result ℕ Complaint
answer_of (Ok s) n os room =
    if nat_le (length (bytes_of_file s os)) room
    then Ok (length (bytes_of_file s os))
    else Err record { line = n + 1; cause = NoRoom }
answer_of (Err e) n os room = Err record { line = n; cause = e }

-- no byte is written but those of a file that fits
abbrev pub output_of : Result Start Cause → List Order → List ℕ → List ℕ
output_of (Ok s) os out =
    if nat_le (length (bytes_of_file s os)) (length out)
    then with_file (bytes_of_file s os) out
    else out
output_of (Err e) os out = out

abbrev pub compose_answer : Reading → (room : ℕ) → Result ℕ Complaint
compose_answer r room = answer_of r.answer r.line r.items room

abbrev pub output : Reading → List ℕ → List ℕ
output r out = output_of r.answer r.items out

-- the bytes load as just this start and these orders, into any slots that have room for them
abbrev pub Loads : Result Start Cause → List Order → List ℕ → Type 0
Loads (Ok s) os bytes =
    (slots : List Order) → length os ≤ length slots
    → load_outcome bytes [] slots ≡ end_outcome os (drop (length os) slots) (Ok s)
Loads (Err e) os bytes = ⊥

abbrev pub LoadsAs : Reading → List ℕ → Type 0
LoadsAs r bytes = Loads r.answer r.items bytes
