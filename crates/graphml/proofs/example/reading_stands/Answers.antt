use Rattle.std.proofs.Common.{refl}
use Rattle.std.specs.Fmt.{digits}
use Rattle.markup.specs.Closing.{tree}
use Rattle.graphml.specs.Reading.{items_read, parties_read}
use Rattle.graphml.proofs.example.reading_stands.Goals as goal

pub returns : goal.returns
unfolding tree items_read parties_read digits
returns c = record { items = refl; parties = refl }
