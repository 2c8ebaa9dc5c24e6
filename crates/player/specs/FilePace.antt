-- The paces that a file may ask for.
use Rattle.std.specs.Prelude.{ℕ, List}
use Rattle.pace.specs.Meaning.{Meaning, meaning_between}
use Rattle.pace.specs.Halving.{halving}
use Rattle.pace.specs.TwoPhase.{phases}
use Rattle.pace.specs.Cap.{capped_meaning}
use Rattle.orders.specs.declared.start.PaceKind.{PaceKind}
use Rattle.orders.specs.declared.start.PaceKind.TheVariants.{Halving as HalvingKind, TwoPhase as TwoPhaseKind}
use Rattle.orders.specs.declared.start.Start.{Start}
use Rattle.player.specs.declared.file_pace.FilePace.{FilePace}
use Rattle.player.specs.declared.file_pace.FilePace.TheVariants.{Halving, TwoPhase}

-- the waits of each pace that a file may ask for
abbrev pub waits_of : PaceKind → ℕ → ℕ → List ℕ
waits_of HalvingKind tmin tmax = halving tmin tmax
waits_of TwoPhaseKind tmin tmax = phases 63 tmin tmax

-- the pace that a file asks for, without its cap
abbrev pub asked_pace : Start → Meaning
asked_pace s = record { tmin = s.tmin; tmax = s.tmax; waits = waits_of s.pace s.tmin s.tmax }

-- the pace that a file asks for, under its cap
abbrev pub pace_of : Start → Meaning
pace_of s = capped_meaning s.cap (asked_pace s)

-- the pace that a program has made of one of them
abbrev pub meaning_of : FilePace → Meaning
meaning_of (Halving p) = meaning_between p.limits (halving p.limits.tmin p.limits.tmax)
meaning_of (TwoPhase p) = meaning_between p.limits (phases 63 p.limits.tmin p.limits.tmax)
