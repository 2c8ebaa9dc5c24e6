-- The law of paces, for halving.
use Rattle.std.specs.Prelude.{◌/◌}
use Rattle.std.proofs.Common.{arith}
use Rattle.pace.specs.declared.limits.Limits.{Limits}
use Rattle.pace.specs.Meaning.{Lawful, meaning_between}
use Rattle.pace.specs.Halving.{halving}
use Rattle.pace.specs.laws.Falling.{falling_lawful}

pub halving_lawful : (l : Limits) → Lawful (meaning_between l (halving l.tmin l.tmax))
unfolding halving
halving_lawful l = falling_lawful (λ w. w / 2) (λ w. omega arith) l 63 (omega arith)
