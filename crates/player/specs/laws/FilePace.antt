-- Each of the paces that a file may ask for is lawful.
use Rattle.pace.specs.Meaning.{Lawful}
use Rattle.pace.specs.laws.Halving.{halving_lawful}
use Rattle.pace.specs.laws.TwoPhase.{two_phase_lawful}
use Rattle.player.specs.declared.file_pace.FilePace.{FilePace}
use Rattle.player.specs.declared.file_pace.FilePace.TheVariants.{Halving, TwoPhase}
use Rattle.player.specs.FilePace.{meaning_of}

pub file_pace_lawful : (p : FilePace) → Lawful (meaning_of p)
file_pace_lawful (Halving p) = halving_lawful p.limits
file_pace_lawful (TwoPhase p) = two_phase_lawful p.limits
