-- What holds of one party.
use Rattle.std.proofs.Common.{Bool, None, Option, Some, arith, cond, eqb, false, refl, true, ℕ, ◌+◌, ◌≡◌, ◌≤◌}
use Rattle.std.proofs.lemmas.Bool.Decides.{nat_tests}
use Rattle.protocol.specs.declared.party.Party.{Party}
use Rattle.protocol.specs.declared.party.Beat.{Beat}
use Rattle.protocol.specs.declared.party.Roll.TheVariants.{Struck}
use Rattle.protocol.specs.declared.table.Root.{Root}
use Rattle.protocol.specs.declared.table.Root.TheVariants.{Running}
use Rattle.protocol.specs.declared.kind.GroupKind.{GroupKind}
use Rattle.protocol.specs.declared.kind.GroupKind.TheVariants.{Closed, Dynamic, Expanding}
use Rattle.protocol.specs.Party.{fresh, on_leg}
use Rattle.protocol.specs.Kept.{Gone, Kept, LawfulTerms, Scene, Terms}

pub gone : (o : Option Beat) → Gone o → o ≡ None
gone None h = refl
gone (Some b) h = absurd h

module _ (m : Terms) (kind : GroupKind) (law : LawfulTerms m kind) (q : Bool) (c : ℕ) (r : Root) (a l : ℕ) (s : Scene m c r a l) (p : Party) (k : Kept m kind q c r a l p) where
  -- a beat on a leg may still arrive, and not for more than a trip
  last_as : (x y z : Bool) (b : Beat) → cond x p.legs.out (cond y p.legs.reply (cond z p.legs.entry None)) ≡ Some b → (c ≤ b.last) × (b.last ≤ c + m.trip)
  last_as true y z b e = grind (arith, nat_tests)
  last_as false true z b e = grind (arith, nat_tests)
  last_as false false true b e = grind (arith, nat_tests)
  last_as false false false b e = absurd (grind arith)

  pub party_last_ticks : (leg : ℕ) (b : Beat) → on_leg leg p ≡ Some b → (c ≤ b.last) × (b.last ≤ c + m.trip)
  party_last_ticks leg b e = last_as (eqb leg 1) (eqb leg 2) (eqb leg 3) b e

  pub no_beat_to_struck : p.note.roll ≡ Struck → p.legs.out ≡ None
  no_beat_to_struck e = gone _ (grind (arith, nat_tests))

  pub elsewhere : Kept m kind false c r a l p
  elsewhere = grind (arith, nat_tests)

pub open_kept : (m : Terms) (kind : GroupKind) → LawfulTerms m kind → (q : Bool) → Kept m kind q 0 Running 0 m.tmax (fresh kind)
open_kept m Closed law q = grind (arith, nat_tests)
open_kept m Expanding law q = grind (arith, nat_tests)
open_kept m Dynamic law q = grind (arith, nat_tests)
