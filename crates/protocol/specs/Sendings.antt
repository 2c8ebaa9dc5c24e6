-- No beat vanishes: each sending has arrived, is lost or is under way.
use Rattle.std.specs.Prelude.{◌≡◌, ℕ, ◌<◌, ◌≤◌, true, ◌⊎◌, List, length, Some}
use Rattle.protocol.specs.declared.party.Beat.{Beat}
use Rattle.protocol.specs.declared.table.Table.{Table}
use Rattle.protocol.specs.declared.happening.HappeningKind.TheVariants.{Sent}
use Rattle.protocol.specs.declared.happening.Happening.{Happening}
use Rattle.protocol.specs.Party.{on_leg}
use Rattle.protocol.specs.Rules.{Rules}
use Rattle.protocol.specs.State.{State, the}
use Rattle.protocol.specs.Beats.{settles, happening_at}

-- an arrival or a loss of the log links to place k
pub record SettledAt (log : List Happening) (k : ℕ) : Type 0 where
  pub at : ℕ
  pub below : at < length log
  pub settles : settles (happening_at log at).kind ≡ true
  pub link : (happening_at log at).link ≡ k

-- a beat that was sent at place k is on a leg of a party
pub record UnderWay (n : ℕ) (t : Table) (k : ℕ) : Type 0 where
  pub party : ℕ
  pub leg : ℕ
  pub beat : Beat
  pub of_a_party : (1 ≤ party) × (party ≤ n)
  pub stands : on_leg leg (the party t) ≡ Some beat
  pub sent_there : beat.place ≡ k

abbrev pub NoBeatVanishes : Rules → State → Type 0
NoBeatVanishes rules s =
    (k : ℕ) → k < length s.log → (happening_at s.log k).kind ≡ Sent →
    SettledAt s.log k ⊎ UnderWay rules.plan.n s.table k
