-- What an example gives, and what the rules make of it: the columns of the table.
use Rattle.std.specs.Prelude.{ℕ, cond, List, [], ◌∷◌, map, length, take, replicate, sum, Some, None, Ok, Err, Option, Result, ◌==◌}
use Rattle.pace.specs.Meaning.{Meaning}
use Rattle.pace.specs.Limits.{limits_no}
use Rattle.pace.specs.Cap.{count_no}
use Rattle.pace.specs.Listed.{waits_no}
use Rattle.slots.specs.declared.refusal.Refusal.{Refusal as ListRefusal}
use Rattle.slots.specs.Refusals.{slot_refusal_number as list_number}
use Rattle.slots.specs.Slots.{append_answer, first_place}
use Rattle.protocol.specs.declared.call.Call.{Call}
use Rattle.protocol.specs.declared.happening.Happening.{Happening}
use Rattle.protocol.specs.declared.kind.GroupKind.{GroupKind}
use Rattle.protocol.specs.declared.party.Roll.{Roll}
use Rattle.protocol.specs.declared.party.Standing.{Standing}
use Rattle.protocol.specs.declared.table.Root.{Root}
use Rattle.protocol.specs.declared.table.Root.TheVariants.{Running}
use Rattle.protocol.specs.Words.{kind_number}
use Rattle.protocol.specs.Rules.{Rules, patience}
use Rattle.protocol.specs.Plans.{parties_no}
use Rattle.protocol.specs.State.{State}
use Rattle.protocol.specs.Runs.{state_after, numbers}
use Rattle.graphml.specs.declared.answer.Exported.{Exported}
use Rattle.graphml.specs.declared.answer.Refusal.{Refusal}
use Rattle.graphml.specs.Answer.{refusal_number}
use Rattle.graphml.specs.Export.{export_answer, export_bytes}
use Rattle.orders.specs.declared.fault.ReadFault.{ReadFault}
use Rattle.orders.specs.declared.order.Order.{Order}
use Rattle.orders.specs.declared.order.OrderKind.TheVariants.{Wait}
use Rattle.orders.specs.declared.start.Start.{Start}
use Rattle.orders.specs.Faults.{fault_number}
use Rattle.orders.specs.Loading.{load_outcome}
use Rattle.orders.specs.Writing.{bytes_of_file}
use Rattle.player.specs.declared.notices.PlayedFile.{PlayedFile}
use Rattle.player.specs.declared.notices.RefusedFile.{RefusedFile}
use Rattle.player.specs.Playing.{Playing, playing}
use Rattle.player.specs.Notices.{notice_lines}

-- a group before its calls: what it goes by, and its table and log
pub record Setting : Type 0 where
  pub rules : Rules
  pub before : State

pub data Given : Type 0 where
  -- questions on a set-up: on two limits, on waits between them, on a number of waits, on a number
  -- of parties
  limits : ℕ → ℕ → Given
  waits : ℕ → ℕ → List ℕ → Given
  cap : ℕ → Given
  parties : ℕ → Given
  -- a pace, in a group of that kind
  pace : GroupKind → Meaning → Given
  -- calls made one after the other, and the export after them into so many bytes, each a dot before
  calls : Setting → List Call → Given
  export : Setting → List Call → ℕ → Given
  -- orders, played up to the first refusal
  orders : Setting → List Order → Given
  -- an order file to be read into so many slots; a start and orders to be written
  reading : List ℕ → ℕ → Given
  writing : Start → List Order → Given
  -- what came of a file, to be told
  notice : Result PlayedFile RefusedFile → Given
  -- a record of that tick for a list that has records of those ticks, and so many spare slots
  append : List ℕ → ℕ → ℕ → Given
  -- a tick by which a list with records of those ticks is searched
  find : List ℕ → ℕ → Given

-- what comes of it; a column that has nothing to tell is empty
pub record Outcome : Type 0 where
  -- the waits, their sum S, and D
  pub waits : List ℕ
  pub total : ℕ
  pub patience : ℕ
  -- the number of each answer, 0 for a yes, and the place of what was refused
  pub answers : List ℕ
  pub place : ℕ
  -- the clock, how the root and the parties stand, what the root notes of each, the tick of each
  -- sending, how many records there are
  pub clock : ℕ
  pub root : Root
  pub parties : List Standing
  pub rolls : List Roll
  pub sendings : List ℕ
  pub records : ℕ
  -- what an export answers, and what an output then holds
  pub answer : Option Exported
  pub output : List ℕ
  -- what a file reads as
  pub start : Option Start
  pub orders : List Order
  -- the place that a list gives
  pub found : Option ℕ

-- nothing to tell
abbrev pub nothing : Outcome
nothing = record {
  waits = [];
  total = 0;
  patience = 0;
  answers = [];
  place = 0;
  clock = 0;
  root = Running;
  parties = [];
  rolls = [];
  sendings = [];
  records = 0;
  answer = None;
  output = [];
  start = None;
  orders = [];
  found = None;
}

abbrev pub answers_with : ℕ → Outcome
answers_with n = record nothing { answers = n ∷ [] }

abbrev pub of_pace : GroupKind → Meaning → Outcome
of_pace kind m = record nothing { waits = m.waits; total = sum m.waits; patience = patience m kind }

-- the ticks of the sendings in a log
abbrev pub sent_at : List Happening → List ℕ
sent_at [] = []
sent_at (h ∷ log) = cond (kind_number h.kind == 1) (h.tick ∷ sent_at log) (sent_at log)

-- what is seen of a group of such a pace, of n parties, after calls that got such answers
abbrev pub of_run : Outcome → ℕ → List ℕ → State → Outcome
of_run o n answers s = record o {
  answers = answers;
  clock = s.table.clock;
  root = s.table.root;
  parties = map (λ p. p.own.standing) (take n s.table.parties);
  rolls = map (λ p. p.note.roll) (take n s.table.parties);
  sendings = sent_at s.log;
  records = length s.log;
}

-- the number of what was refused, its place, and what is seen of the group
abbrev pub of_orders : Outcome → ℕ → Playing → Outcome
of_orders o n x = record (of_run o n (x.stop.number ∷ []) x.state) { place = x.stop.order }

abbrev pub of_export : Result Exported Refusal → List ℕ → Outcome
of_export (Ok x) out = record nothing { answers = 0 ∷ []; answer = Some x; output = out }
of_export (Err e) out = record nothing { answers = refusal_number e ∷ []; output = out }

abbrev pub of_reading : Result Start ReadFault → List Order → Outcome
of_reading (Ok s) os = record nothing { answers = 0 ∷ []; start = Some s; orders = os }
of_reading (Err f) os = record nothing { answers = fault_number f ∷ []; place = f.byte; orders = os }

abbrev pub append_number : Result (Unit {0}) ListRefusal → ℕ
append_number (Ok u) = 0
append_number (Err e) = list_number e

-- what a spare slot holds
abbrev pub no_order : Order
no_order = record { kind = Wait; party = 0; leg = 0; tick = 0 }

-- what the rules make of what is given
abbrev pub outcome : Given → Outcome
outcome (limits tmin tmax) = answers_with (limits_no tmin tmax)
outcome (waits tmin tmax ws) = answers_with (waits_no tmin tmax ws)
outcome (cap m) = answers_with (count_no m)
outcome (parties n) = answers_with (parties_no n)
outcome (pace kind m) = of_pace kind m
outcome (calls g cs) =
    of_run (of_pace g.rules.plan.kind g.rules.meaning) g.rules.plan.n
    (numbers g.rules cs g.before) (state_after g.rules cs g.before)
outcome (export g cs room) =
    let s = state_after g.rules cs g.before in
    of_export (export_answer s g.rules.plan.n room)
    (export_bytes s g.rules.plan.n (replicate room 46))
outcome (orders g os) =
    of_orders (of_pace g.rules.plan.kind g.rules.meaning) g.rules.plan.n
    (playing g.rules 0 os g.before)
outcome (reading bs room) = let x = load_outcome bs [] (replicate room no_order) in of_reading x.answer x.items
outcome (writing s os) = record nothing { output = bytes_of_file s os }
outcome (notice x) = record nothing { output = notice_lines x }
outcome (append ticks t room) = answers_with (append_number (append_answer (λ tick. tick) ticks (replicate room 0) t))
outcome (find ticks t) = record nothing { found = first_place (λ tick. tick) t ticks }
