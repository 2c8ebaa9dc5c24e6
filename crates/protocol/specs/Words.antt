-- The number and the word of each kind of happening.
use Rattle.std.specs.Prelude.{ℕ, List, codes}
use Rattle.protocol.specs.declared.happening.HappeningKind.{HappeningKind}
use Rattle.protocol.specs.declared.happening.HappeningKind.TheVariants.{Sent, Arrived, Lost, Enrolled, Struck, Crashed, Stopped, Left, Joining, Leaving}

abbrev pub kind_number : HappeningKind → ℕ
kind_number Sent = 1
kind_number Arrived = 2
kind_number Lost = 3
kind_number Enrolled = 4
kind_number Struck = 5
kind_number Crashed = 6
kind_number Stopped = 7
kind_number Left = 8
kind_number Joining = 9
kind_number Leaving = 10

abbrev pub word : HappeningKind → List ℕ
word Sent = codes "sent"
word Arrived = codes "arrived"
word Lost = codes "lost"
word Enrolled = codes "enrolled"
word Struck = codes "struck"
word Crashed = codes "crashed"
word Stopped = codes "stopped"
word Left = codes "left"
word Joining = codes "joining"
word Leaving = codes "leaving"
