use Rattle.schedule.proofs.Placing.{maps_orders}
use Rattle.schedule.proofs.map.RecordLines.new.Goals as goal

pub returns-clause-orders : goal.returns-clause-orders
returns-clause-orders c = maps_orders
