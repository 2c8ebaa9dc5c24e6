use Rattle.player.proofs.Example.{by_hand}
use Rattle.player.proofs.notices.notices.Goals as goal

pub returns-clause-by_hand : goal.returns-clause-by_hand
returns-clause-by_hand c = by_hand
