-- What a group goes by stays as it is.
use Rattle.std.proofs.Common.{◌≡◌, ◌∙◌}
use Rattle.pace.specs.declared.meaning.Pace.{Ghosts}
use Rattle.slots.specs.declared.SlotList.{SlotList}
use Rattle.slots.proofs.Growing.{extends_trans}
use Rattle.protocol.specs.declared.happening.Happening.{Happening}
use Rattle.group.specs.declared.group.Group.{Group}
use Rattle.group.specs.Does.{rules, Stays}

module _ {A : Type 0} {D : Ghosts A} where
  pub stays_on : (a b c : Group A D) (k l m : SlotList Happening) → Stays a b k l → Stays b c l m → Stays a c k m
  stays_on a b c k l m p q = record { pace = q.pace ∙ p.pace; plan = q.plan ∙ p.plan; extends = extends_trans k l m p.extends q.extends }

  pub same_rules : (g g' : Group A D) (l l' : SlotList Happening) → Stays g g' l l' → rules g' l' ≡ rules g l
  same_rules g g' l l' h = let room = h.extends.long in cc (h.pace, h.plan, h.extends.long)
