-- What the log of a run tells of the root and of each party, read record by record.
use Rattle.std.specs.Prelude.{◌≡◌, ℕ, ◌≤◌, cond, List, [], ◌∷◌, ◌==◌}
use Rattle.protocol.specs.declared.party.Party.{Party}
use Rattle.protocol.specs.declared.party.Own.{Own}
use Rattle.protocol.specs.declared.party.Stage.TheVariants.{Joining as Joins, In, Leaving as Leaves}
use Rattle.protocol.specs.declared.party.Ending.{Ending}
use Rattle.protocol.specs.declared.party.Ending.TheVariants.{Crashed as ByCrash, Stopped as ByStop, Left as ByLeaving}
use Rattle.protocol.specs.declared.party.Standing.{Standing}
use Rattle.protocol.specs.declared.party.Standing.TheVariants.{Outside, Live, Ended}
use Rattle.protocol.specs.declared.party.Roll.{Roll}
use Rattle.protocol.specs.declared.party.Roll.TheVariants.{Off, On, Struck as IsStruck}
use Rattle.protocol.specs.declared.table.Root.{Root}
use Rattle.protocol.specs.declared.table.Root.TheVariants.{Running, Down}
use Rattle.protocol.specs.declared.table.RootEnding.TheVariants.{Crashed as RootCrashed, Stopped as RootStopped}
use Rattle.protocol.specs.declared.kind.GroupKind.{GroupKind}
use Rattle.protocol.specs.declared.kind.GroupKind.TheVariants.{Closed, Expanding, Dynamic}
use Rattle.protocol.specs.declared.happening.HappeningKind.{HappeningKind}
use Rattle.protocol.specs.declared.happening.HappeningKind.TheVariants.{Sent, Arrived, Lost, Enrolled, Struck, Crashed, Stopped, Left, Joining, Leaving}
use Rattle.protocol.specs.declared.happening.Happening.{Happening}
use Rattle.protocol.specs.Rules.{Rules}
use Rattle.protocol.specs.State.{State, the}

-- what the records owned by i make of x, one after another
abbrev pub after_reading : {A : Type 0} → (A → Happening → A) → ℕ → A → List Happening → A
after_reading f i x [] = x
after_reading f i x (h ∷ log) = after_reading f i (cond (h.owner == i) (f x h) x) log

-- where a party stands, when it last heard, and whether it is on the roll
pub record Account : Type 0 where
  pub own : Own
  pub roll : Roll

abbrev pub account : Standing → ℕ → Roll → Account
account standing since roll =
    record { own = record { standing = standing; since = since }; roll = roll }

abbrev pub account_of : Party → Account
account_of p = record { own = p.own; roll = p.note.roll }

-- of a new group
abbrev pub first_account : GroupKind → Account
first_account Closed = account (Live In) 0 On
first_account Expanding = account Outside 0 Off
first_account Dynamic = account Outside 0 Off

-- the root's beat arrives at tick t: a live party has heard, and a joining one is in
abbrev pub after_hearing : ℕ → Standing → Account → Account
after_hearing t Outside a = a
after_hearing t (Live Joins) a = account (Live In) t a.roll
after_hearing t (Live In) a = account (Live In) t a.roll
after_hearing t (Live Leaves) a = account (Live Leaves) t a.roll
after_hearing t (Ended how e g) a = a

-- a live party ends at tick t
abbrev pub after_ending : Ending → ℕ → Standing → Account → Account
after_ending how t Outside a = a
after_ending how t (Live g) a = account (Ended how t g) a.own.since a.roll
after_ending how t (Ended how' e g) a = a

-- what a record of a party makes of its account
abbrev pub tells_as : HappeningKind → ℕ → Account → Account
tells_as Sent t a = a
tells_as Arrived t a = after_hearing t a.own.standing a
tells_as Lost t a = a
tells_as Enrolled t a = record { own = a.own; roll = On }
tells_as Struck t a = record { own = a.own; roll = IsStruck }
tells_as Crashed t a = after_ending ByCrash t a.own.standing a
tells_as Stopped t a = after_ending ByStop t a.own.standing a
tells_as Left t a = after_ending ByLeaving t a.own.standing a
tells_as Joining t a = account (Live Joins) t a.roll
tells_as Leaving t a = account (Live Leaves) a.own.since a.roll

-- what the log tells of party i
abbrev pub account_in : GroupKind → ℕ → List Happening → Account
account_in kind i log = after_reading (λ a h. tells_as h.kind h.tick a) i (first_account kind) log

-- what a record of the root makes of it
abbrev pub root_as : HappeningKind → ℕ → Root → Root
root_as Sent t r = r
root_as Arrived t r = r
root_as Lost t r = r
root_as Enrolled t r = r
root_as Struck t r = r
root_as Crashed t r = Down RootCrashed t
root_as Stopped t r = Down RootStopped t
root_as Left t r = r
root_as Joining t r = r
root_as Leaving t r = r

-- what the log tells of the root, which is party 0
abbrev pub root_in : List Happening → Root
root_in log = after_reading (λ r h. root_as h.kind h.tick r) 0 Running log

-- the log tells where each party stands, when it last heard and whether it is on the roll;
-- and how the root is
pub record TellsTheGroup (rules : Rules) (s : State) : Type 0 where
  pub party :
      (i : ℕ) → 1 ≤ i → i ≤ rules.plan.n →
      account_in rules.plan.kind i s.log ≡ account_of (the i s.table)
  pub root : root_in s.log ≡ s.table.root
