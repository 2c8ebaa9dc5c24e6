-- A run goes on.
use Rattle.std.proofs.Common.{◌≡◌, ℕ, ◌-◌, List, [], ◌∷◌, ◌++◌, replicate, Result, sym, subst, refl}
use mathlib.Core.Logic.{∥∥₁_map}
use Rattle.pace.specs.Meaning.{Lawful}
use Rattle.pace.specs.declared.meaning.Pace.{Ghosts}
use Rattle.slots.specs.declared.SlotList.{SlotList}
use Rattle.protocol.specs.declared.happening.Happening.{Happening}
use Rattle.protocol.specs.declared.call.Call.{Call}
use Rattle.protocol.specs.declared.call.Call.TheVariants.{Tick}
use Rattle.protocol.specs.declared.call.Step.{Step}
use Rattle.protocol.specs.declared.refusal.Refusal.{Refusal}
use Rattle.slots.specs.Slots.{items}
use Rattle.protocol.specs.declared.plan.Plan.{Plan}
use Rattle.protocol.specs.State.{State, opening, new_table}
use Rattle.protocol.proofs.Rehearsal.{then, keeps}
use Rattle.group.specs.declared.group.Group.{Group}
use Rattle.group.specs.Does.{rules, state, Stays, Does}
use Rattle.group.proofs.Staying.{same_rules}
use Rattle.group.specs.Advance.{WentOn}
use Rattle.protocol.specs.Rehearsals.{Rehearsed}
use Rattle.runs.specs.Runs.{IsRun, Makes}
use Rattle.runs.proofs.Answering.{makes_run}
use Rattle.protocol.specs.Rules.{Rules}

module _ {A : Type 0} {D : Ghosts A} where
  -- a group that was just opened, over an empty log
  pub opened : (m : A) (plan : Plan) (g : Group A D) (l : SlotList Happening) → g.pace ≡ m → g.plan ≡ plan →
      g.table ≡ new_table (D.means m).tmax plan.kind → items l ≡ [] → state g l ≡ opening (rules g l)
  opened m plan g l pace plans table empty = cc (pace, plans, table, empty)

  -- a new group is a run
  pub opens : (g : Group A D) (l : SlotList Happening) → Lawful (D.means g.pace) → state g l ≡ opening (rules g l) → ∥ IsRun (rules g l) (state g l) ∥₁
  opens g l sound e = let R = rules g l in ∣ ([], keeps R sound [] (state g l) e) ∣₁

  -- some steps more
  pub goes_on : (g g' : Group A D) (l l' : SlotList Happening) (steps : List Step) → Lawful (D.means g.pace) → Stays g g' l l' →
      Rehearsed (rules g l) (state g l) steps (state g' l') → ∥ IsRun (rules g l) (state g l) ∥₁ → ∥ IsRun (rules g' l') (state g' l') ∥₁
  goes_on g g' l l' steps sound stays leads run =
      let R = rules g l in
      let on = λ (r : IsRun R (state g l)).
      let all = r.0 ++ steps in
      subst (λ (Q : Rules). IsRun Q (state g' l')) (sym (same_rules g g' l l' stays))
      (all, keeps R sound all (state g' l') (then R (opening R) r.0 (state g l) steps (state g' l') r.1.by_the_rules leads)) in
      ∥∥₁_map run on

  -- a call more
  pub goes_on_by : (g g' : Group A D) (l l' : SlotList Happening) (call : Call) (answer : Result (Unit {0}) Refusal) → Lawful (D.means g.pace) →
      Does call g g' l l' answer → ∥ IsRun (rules g l) (state g l) ∥₁ → ∥ IsRun (rules g' l') (state g' l') ∥₁
  goes_on_by g g' l l' call answer sound h = goes_on g g' l l' (record { call = call; answer = answer } ∷ []) sound h.stays (h.number, h.after)

  -- calls more, up to the first that is refused
  pub goes_on_making : (calls : List Call) (g g' : Group A D) (l l' : SlotList Happening) (told : ℕ) → Lawful (D.means g.pace) →
      Makes calls g g' l l' told → ∥ IsRun (rules g l) (state g l) ∥₁ → ∥ IsRun (rules g' l') (state g' l') ∥₁
  goes_on_making calls g g' l l' told sound h =
      let R = rules g l in
      let made = makes_run R calls (state g l) in
      goes_on g g' l l' made.steps sound h.stays (subst (λ (s : State). Rehearsed R (state g l) made.steps s) (sym h.after) made.by_the_rules)

  -- ticks more
  pub went_on : (until : ℕ) (g g' : Group A D) (l l' : SlotList Happening) (answer : Result (Unit {0}) Refusal) → Lawful (D.means g.pace) →
      WentOn until g g' l l' answer → ∥ IsRun (rules g l) (state g l) ∥₁ → ∥ IsRun (rules g' l') (state g' l') ∥₁
  went_on until g g' l l' answer sound h =
      goes_on_making (replicate (until - g.table.clock) Tick) g g' l l' _ sound (record { stays = h.stays; number = refl; after = h.after })
