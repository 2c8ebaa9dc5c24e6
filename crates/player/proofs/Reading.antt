-- A file that is read, from its bytes to the group that it asks for.
use Rattle.std.proofs.Common.{◌≡◌, ℕ, suc, List, [], ◌++◌, Result, sym, refl, ap, ◌∙◌, subst, subst₂}
use Rattle.pace.specs.declared.refusal.Refusal.{Refusal}
use Rattle.pace.specs.declared.refusal.Refusal.TheVariants.{BadLimits, BadCount, BadFirst, BadWait}
use Rattle.pace.specs.Answers.{pace_refusal_number}
use Rattle.pace.specs.Meaning.{Meaning}
use Rattle.pace.specs.Limits.{limits_no}
use Rattle.slots.specs.declared.SlotList.{SlotList}
use Rattle.slots.specs.Slots.{items, spare}
use Rattle.slots.proofs.Growing.{whole}
use Rattle.orders.specs.declared.fault.ReadFault.{ReadFault}
use Rattle.orders.specs.declared.order.Order.{Order}
use Rattle.orders.specs.declared.start.Start.{Start}
use Rattle.orders.specs.Loading.{LoadOutcome, load_outcome}
use Rattle.graphml.specs.Lent.{lent}
use Rattle.player.specs.FilePace.{pace_of}
use Rattle.player.specs.Program.{or_else, cap_and_plan_no, set_up_no, Outcome, IsNotPlayed, SetUpComesTo, ReadingComesTo, FileComesTo}

-- no refusal has number 0
some_number : (e : Refusal) → (k : ℕ) × (pace_refusal_number e ≡ suc k)
some_number BadLimits = (0, refl)
some_number BadCount = (1, refl)
some_number BadFirst = (2, refl)
some_number BadWait = (3, refl)

module _ (s : Start) (orders : List Order) (came : Outcome) where
  -- the limits are refused
  pub limits_refused : (e : Refusal) → limits_no s.tmin s.tmax ≡ pace_refusal_number e →
      IsNotPlayed 0 (pace_refusal_number e) came → SetUpComesTo (set_up_no s) (pace_of s) s orders came
  limits_refused e z h =
      let k = some_number e in
      subst (λ n. SetUpComesTo n (pace_of s) s orders came) (sym (ap (λ n. or_else n (cap_and_plan_no s)) (z ∙ k.1)))
      (subst (λ n. IsNotPlayed 0 n came) k.1 h)

  -- the limits are granted, and the cap and the plan are asked about
  pub limits_granted : (m : Meaning) → limits_no s.tmin s.tmax ≡ 0 → m ≡ pace_of s →
      SetUpComesTo (cap_and_plan_no s) m s orders came → SetUpComesTo (set_up_no s) (pace_of s) s orders came
  limits_granted m z e h =
      subst₂ (λ n x. SetUpComesTo n x s orders came) (sym (ap (λ n. or_else n (cap_and_plan_no s)) z)) e h

-- what came of a file, by what was loaded into a new list
pub file_run : (file : List ℕ) (l l' : SlotList Order) (os os' : List Order) (r : Result Start ReadFault) (came : Outcome) →
    items l ≡ [] → spare l ≡ os → r ≡ (load_outcome file (items l) (spare l)).answer → items l' ≡ (load_outcome file (items l) (spare l)).items →
    spare l' ≡ (load_outcome file (items l) (spare l)).spare → os' ≡ l'.slots.now → ReadingComesTo r (items l') came →
    FileComesTo file (lent os os') came
file_run file l l' os os' r came empty given answer its spares back read =
    let same : load_outcome file (items l) (spare l) ≡ load_outcome file [] os = ap (λ xs. load_outcome file xs (spare l)) empty ∙ ap (λ ys. load_outcome file [] ys) given in
    let i = its ∙ ap (λ (x : LoadOutcome). x.items) same in
    record {
      orders_read = back ∙ whole l' ∙ ap (λ xs. xs ++ spare l') i ∙ ap (λ ys. (load_outcome file [] os).items ++ ys) (spares ∙ ap (λ (x : LoadOutcome). x.spare) same);
      came_to = subst₂ (λ x xs. ReadingComesTo x xs came) (answer ∙ ap (λ (x : LoadOutcome). x.answer) same) i read;
    }
