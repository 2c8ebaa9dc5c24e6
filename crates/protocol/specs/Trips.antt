-- How long beats are under way: each arrives or is lost at most a trip after its sending.
use Rattle.std.specs.Prelude.{◌≡◌, ℕ, ◌+◌, ◌<◌, ◌≤◌, true, List, length}
use Rattle.protocol.specs.declared.happening.Happening.{Happening}
use Rattle.protocol.specs.Rules.{trip, Rules}
use Rattle.protocol.specs.State.{State}
use Rattle.protocol.specs.Beats.{settles, happening_at, EachBeat}

-- the tick of the record at place k
abbrev pub tick_at : List Happening → ℕ → ℕ
tick_at log k = (happening_at log k).tick

-- a settled beat was under way for at most a trip; one on a leg may still arrive, by its last tick,
-- which is at most a trip after its sending
pub record BeatsComeInTime (rules : Rules) (s : State) : Type 0 where
  pub settled :
      (k : ℕ) → k < length s.log → settles (happening_at s.log k).kind ≡ true →
      tick_at s.log k ≤ tick_at s.log (happening_at s.log k).link + trip rules.meaning
  pub under_way :
      EachBeat rules s (λ i leg b.
      (s.table.clock ≤ b.last) × (b.last ≤ tick_at s.log b.place + trip rules.meaning))
