-- How the parties of a run end: together, and for cause.
use Rattle.std.specs.Prelude.{◌≡◌, ℕ, ◌+◌, ◌<◌, ◌≤◌, ◌≢◌}
use Rattle.protocol.specs.declared.party.Party.{Party}
use Rattle.protocol.specs.declared.party.Stage.{Stage}
use Rattle.protocol.specs.declared.party.Stage.TheVariants.{In}
use Rattle.protocol.specs.declared.party.Ending.{Ending}
use Rattle.protocol.specs.declared.party.Ending.TheVariants.{Stopped}
use Rattle.protocol.specs.declared.party.Standing.TheVariants.{Ended}
use Rattle.protocol.specs.declared.party.Roll.TheVariants.{On}
use Rattle.protocol.specs.declared.table.Root.TheVariants.{Down}
use Rattle.protocol.specs.declared.table.RootEnding.{RootEnding}
use Rattle.protocol.specs.declared.table.RootEnding.TheVariants.{Stopped as RootStopped}
use Rattle.protocol.specs.Rules.{trip, patience, Rules}
use Rattle.protocol.specs.State.{State, the}

abbrev pub OnRoll : Party → Type 0
OnRoll p = p.note.roll ≡ On

-- the party ended at tick e
abbrev pub EndedAt : Party → ℕ → Type 0
EndedAt p e = (how : Ending) × (g : Stage) × (p.own.standing ≡ Ended how e g)

-- the root ended at tick e
abbrev pub RootEndedAt : State → ℕ → Type 0
RootEndedAt s e = (how : RootEnding) × (s.table.root ≡ Down how e)

-- after the end of a party on the roll the root ends within the patience of a party
pub record RootFollows (rules : Rules) (s : State) : Type 0 where
  pub root_follows :
      (i e : ℕ) → 1 ≤ i → i ≤ rules.plan.n → OnRoll (the i s.table) → EndedAt (the i s.table) e →
      e + patience rules.meaning rules.plan.kind < s.table.clock → (r : ℕ) × RootEndedAt s r

-- where the root has ended, each party on the roll ends within its patience and one trip
pub record PartiesFollow (rules : Rules) (s : State) : Type 0 where
  pub parties_follow :
      (r i : ℕ) → RootEndedAt s r →
      r + patience rules.meaning rules.plan.kind + trip rules.meaning < s.table.clock →
      1 ≤ i → i ≤ rules.plan.n → OnRoll (the i s.table) → (e : ℕ) × EndedAt (the i s.table) e

-- a party that was in stops only after the root has ended
pub record StopsForCause (rules : Rules) (s : State) : Type 0 where
  pub stops_for_cause :
      (i e : ℕ) → 1 ≤ i → i ≤ rules.plan.n → (the i s.table).own.standing ≡ Ended Stopped e In →
      (r : ℕ) × RootEndedAt s r × (r ≤ e)

-- neither the root nor a party has stopped
pub record NobodyStopped (rules : Rules) (s : State) : Type 0 where
  pub root_not : (e : ℕ) → s.table.root ≢ Down RootStopped e
  pub party_not :
      (i e : ℕ) (g : Stage) → 1 ≤ i → i ≤ rules.plan.n →
      (the i s.table).own.standing ≢ Ended Stopped e g
