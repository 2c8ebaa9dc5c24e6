use Rattle.std.proofs.Common.{[], ◌∷◌, arith}
use Rattle.slots.specs.Slots.{items}
use Rattle.slots.proofs.Growing.{appended_extends}
use Rattle.slots.proofs.Times.{rises_appended}
use Rattle.slots.proofs.SlotList.append.Goals as goal

pub returns-clause-extends : goal.returns-clause-extends
returns-clause-extends g c = appended_extends c.args.self.now c.put.new.self (c.args.item ∷ []) c.put.ensures

pub returns-clause-rises : goal.returns-clause-rises
returns-clause-rises g c = rises_appended g.T.Timed.time (items c.args.self.now) c.args.item (items c.put.new.self) (omega arith) c.put.ensures.records
