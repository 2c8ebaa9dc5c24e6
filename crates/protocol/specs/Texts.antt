-- What is written of a kind of group, a stage, an ending and a refusal.
use Rattle.std.specs.Prelude.{ℕ, List, codes}
use Rattle.protocol.specs.declared.kind.GroupKind.{GroupKind}
use Rattle.protocol.specs.declared.kind.GroupKind.TheVariants.{Closed, Expanding, Dynamic}
use Rattle.protocol.specs.declared.party.Stage.{Stage}
use Rattle.protocol.specs.declared.party.Stage.TheVariants.{Joining, In, Leaving}
use Rattle.protocol.specs.declared.party.Ending.{Ending}
use Rattle.protocol.specs.declared.party.Ending.TheVariants.{Crashed, Stopped, Left}
use Rattle.protocol.specs.declared.table.RootEnding.{RootEnding}
use Rattle.protocol.specs.declared.table.RootEnding.TheVariants.{Crashed as RootCrashed, Stopped as RootStopped}
use Rattle.protocol.specs.declared.refusal.Refusal.{Refusal}
use Rattle.protocol.specs.declared.refusal.Refusal.TheVariants.{NoSuchParty, KindForbids, WrongState, NoBeat, ClockAtEnd, BeatDue, NoSlot, LogDiffers}

abbrev pub kind_text : GroupKind → List ℕ
kind_text Closed = codes "closed"
kind_text Expanding = codes "expanding"
kind_text Dynamic = codes "dynamic"

abbrev pub stage_text : Stage → List ℕ
stage_text Joining = codes "joining"
stage_text In = codes "in"
stage_text Leaving = codes "leaving"

abbrev pub ending_text : Ending → List ℕ
ending_text Crashed = codes "crashed"
ending_text Stopped = codes "stopped"
ending_text Left = codes "left"

abbrev pub root_ending_text : RootEnding → List ℕ
root_ending_text RootCrashed = codes "crashed"
root_ending_text RootStopped = codes "stopped"

-- the question that was answered no
abbrev pub refusal_text : Refusal → List ℕ
refusal_text NoSuchParty = codes "does the plan have this party?"
refusal_text KindForbids = codes "can this be done in a group of this kind?"
refusal_text WrongState = codes "is the party, or the root, where this can happen to it?"
refusal_text NoBeat = codes "is it one of the three legs, and does it hold a beat?"
refusal_text ClockAtEnd = codes "is the clock still short of 4000000000?"
refusal_text BeatDue = codes "is every beat off its leg whose last tick this is?"
refusal_text NoSlot = codes "is there room in the log?"
refusal_text LogDiffers = codes "is this the log that the group wrote?"
