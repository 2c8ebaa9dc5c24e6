use Rattle.slots.specs.Slots.{items}
use Rattle.slots.proofs.Times.{last_is_latest}
use Rattle.slots.proofs.SlotList.last_tick.Goals as goal

pub returns-clause-latest : goal.returns-clause-latest
returns-clause-latest g c = last_is_latest g.T.Timed.time (items c.args.self.now)
