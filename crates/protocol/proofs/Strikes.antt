-- A struck party among others that change.
use Rattle.std.proofs.Common.{List, [], get_or, set, subst, suc, sym, zero, ℕ, ◌-◌, ◌∷◌, ◌≡◌}
use Rattle.protocol.specs.declared.party.Party.{Party}
use Rattle.protocol.specs.declared.party.Roll.TheVariants.{Struck}
use Rattle.protocol.specs.Walk.{walks}
use Rattle.protocol.specs.Party.{nobody}
use Rattle.protocol.proofs.Lifts.{set_each}

abbrev pub HasStruck : Party → Type 0
HasStruck p = p.note.roll ≡ Struck

-- one party

-- what each turn keeps of an element, a walk keeps
pub walks_keep :
    {S A : Type 0} (f : ℕ → S → A → A) (g : ℕ → S → A → S) (P : A → Type 0) → ((j : ℕ) (s : S) (x : A) → P x → P (f j s x)) →
    (j n : ℕ) (s : S) (xs : List A) (d : A) (k : ℕ) → P (get_or xs k d) → P (get_or (walks f g j n s xs) k d)
walks_keep f g P keep j zero s xs d k p = p
walks_keep f g P keep j (suc n) s [] d k p = p
walks_keep f g P keep j (suc n) s (x ∷ xs) d zero p = keep j s x p
walks_keep f g P keep j (suc n) s (x ∷ xs) d (suc k) p = walks_keep f g P keep (suc j) n (g j s x) xs d k p

-- each call

module _ (i : ℕ) where
  -- another party j, or i itself, is changed
  pub struck_changes : (j : ℕ) (p : Party) (ps : List Party) → (HasStruck (get_or ps (j - 1) nobody) → HasStruck p) → HasStruck (get_or ps (i - 1) nobody) → HasStruck (get_or (set ps (j - 1) p) (i - 1) nobody)
  struck_changes j p ps keep e = set_each HasStruck ps (j - 1) (i - 1) p nobody (λ same. keep (subst (λ k. HasStruck (get_or ps k nobody)) (sym same) e)) e
