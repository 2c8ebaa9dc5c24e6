use Rattle.std.proofs.Common.{refl}
use Rattle.markup.specs.Closing.{tree}
use Rattle.markup.proofs.example.samples_stand.Goals as goal

pub returns : goal.returns
unfolding tree
returns c = refl
