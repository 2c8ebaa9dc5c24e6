-- What a call changes: the table of the group and its log.
use Rattle.std.specs.Prelude.{ℕ, ◌-◌, Bool, true, false, List, [], ◌∷◌, ◌++◌, length, replicate, slice_index_or, slice_set}
use Rattle.protocol.specs.declared.party.Party.{Party}
use Rattle.protocol.specs.declared.table.Root.{Root}
use Rattle.protocol.specs.declared.table.Root.TheVariants.{Running, Down}
use Rattle.protocol.specs.declared.kind.GroupKind.{GroupKind}
use Rattle.protocol.specs.declared.happening.HappeningKind.{HappeningKind}
use Rattle.protocol.specs.declared.happening.Happening.{Happening}
use Rattle.protocol.specs.declared.table.Table.{Table}
use Rattle.protocol.specs.Rules.{Rules}
use Rattle.protocol.specs.Party.{fresh, nobody}

-- all that a call changes: the table of the group, and its log
pub record State : Type 0 where
  pub table : Table
  pub log : List Happening

-- a record of the log: its tick, owner, kind and link
abbrev pub happening : ℕ → ℕ → HappeningKind → ℕ → Happening
happening t o w l = record { tick = t; owner = o; kind = w; link = l }

-- one record more, linked to its own place
abbrev pub with_record : ℕ → ℕ → HappeningKind → List Happening → List Happening
with_record clock owner w log = log ++ (happening clock owner w (length log) ∷ [])

-- one record more, linked to the sending of a beat
abbrev pub with_linked : ℕ → ℕ → HappeningKind → ℕ → List Happening → List Happening
with_linked clock owner w place log = log ++ (happening clock owner w place ∷ [])

-- party i of the group
abbrev pub the : ℕ → Table → Party
the i t = slice_index_or t.parties (i - 1) nobody

-- after a call the table counts the records of the log: with other parties, another root,
-- one other party
abbrev pub with_parties : List Party → List Happening → Table → State
with_parties ps log t =
    record { table = record t { logged = length log; parties = ps }; log = log }

abbrev pub with_root : Root → List Happening → Table → State
with_root r log t =
    record { table = record t { root = r; logged = length log }; log = log }

abbrev pub with_party : ℕ → Party → List Happening → Table → State
with_party i p log t = with_parties (slice_set t.parties (i - 1) p) log t

-- the table of a new group, whose first round has length tmax
abbrev pub new_table : ℕ → GroupKind → Table
new_table tmax kind = record {
  clock = 0;
  root = Running;
  start = 0;
  length = tmax;
  logged = 0;
  parties = replicate 32 (fresh kind);
}

-- a new group with an empty log
abbrev pub opening : Rules → State
opening rules = record { table = new_table rules.meaning.tmax rules.plan.kind; log = [] }

abbrev pub runs : Root → Bool
runs Running = true
runs (Down how at) = false
