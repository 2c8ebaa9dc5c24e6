-- Each sending of a log is settled or its beat is under way, when one party has changed and after a pass.
use Rattle.std.proofs.Common.{Bool, List, None, Some, [], ap, arith, cond, eqb, false, get_or, inl, inr, length, refl, set, subst, suc, sym, true, unwrap_or, zero, ℕ, ◌++◌, ◌-◌, ◌<◌, ◌∙◌, ◌∷◌, ◌≡◌, ◌≤◌, ◌⊎◌}
use Rattle.std.proofs.lemmas.List.{get_or_append_left, get_or_push, length_push}
use Rattle.std.proofs.lemmas.Bool.Decides.{nat_tests}
use Rattle.protocol.specs.declared.party.Party.{Party}
use Rattle.protocol.specs.declared.party.Beat.{Beat}
use Rattle.protocol.specs.declared.happening.HappeningKind.TheVariants.{Sent}
use Rattle.protocol.specs.declared.happening.Happening.{Happening}
use Rattle.pace.specs.Meaning.{Meaning}
use Rattle.protocol.specs.Rules.{Rules}
use Rattle.protocol.specs.Walk.{folds, walks}
use Rattle.protocol.specs.Party.{legs_of, nobody, off_leg, on_leg, party}
use Rattle.protocol.specs.State.{State, the}
use Rattle.protocol.specs.Beats.{happening_at, nothing, settles}
use Rattle.protocol.specs.Sendings.{SettledAt}
use Rattle.protocol.proofs.Lifts.{set_each}
use Rattle.protocol.proofs.Onward.{every_push}

-- each sending of the log is settled, or U holds of its place
abbrev Accounted : List Happening → (ℕ → Type 0) → Type 0
Accounted log U = (k : ℕ) → k < length log → (happening_at log k).kind ≡ Sent → SettledAt log k ⊎ U k

-- a beat that was sent at place k is on a leg of the party
pub record Has (p : Party) (k : ℕ) : Type 0 where
  pub leg : ℕ
  pub beat : Beat
  pub stands : on_leg leg p ≡ Some beat
  pub sent_there : beat.place ≡ k

-- of one of the first n parties
pub record HasOne (n : ℕ) (ps : List Party) (k : ℕ) : Type 0 where
  pub at : ℕ
  pub below : at < n
  pub has : Has (get_or ps at nobody) k

settled_push : (log : List Happening) (h : Happening) (k : ℕ) → SettledAt log k → SettledAt (log ++ h ∷ []) k
settled_push log h k s =
    let e = get_or_append_left log (h ∷ []) nothing s.at s.below in
    record {
      at = s.at;
      below = omega (arith, s.below, length_push log h);
      settles = ap (λ (x : Happening). settles x.kind) e ∙ s.settles;
      link = ap (λ (x : Happening). x.link) e ∙ s.link;
    }

settles_here : (log : List Happening) (h : Happening) → settles h.kind ≡ true → SettledAt (log ++ h ∷ []) h.link
settles_here log h e =
    let f = get_or_push log h nothing (length log) refl in
    record {
      at = length log;
      below = omega (arith, length_push log h);
      settles = ap (λ (x : Happening). settles x.kind) f ∙ e;
      link = ap (λ (x : Happening). x.link) f;
    }

-- one record more
push : (log : List Happening) (h : Happening) (U V : ℕ → Type 0) → (h.kind ≡ Sent → V (length log)) →
    ((k : ℕ) → U k → SettledAt (log ++ h ∷ []) k ⊎ V k) → Accounted log U → Accounted (log ++ h ∷ []) V
push log h U V new old a =
    every_push log h (λ k x. x.kind ≡ Sent → SettledAt (log ++ h ∷ []) k ⊎ V k)
    (λ k below is. elim (a k below is) [ inl s ↦ inl (settled_push log h k s) | inr u ↦ old k u ])
    (λ is. inr (new is))

pub weaken_accounted : (log : List Happening) (U V : ℕ → Type 0) → ((k : ℕ) → U k → V k) → Accounted log U → Accounted log V
weaken_accounted log U V f a k below is = elim (a k below is) [ inl s ↦ inl s | inr u ↦ inr (f k u) ]

-- the legs of p' hold what those of p do
abbrev pub Keeps : Party → Party → Type 0
Keeps p p' = (leg : ℕ) (b : Beat) → on_leg leg p ≡ Some b → on_leg leg p' ≡ Some b

has_on : (p p' : Party) (k : ℕ) → Keeps p p' → Has p k → Has p' k
has_on p p' k f h = record { leg = h.leg; beat = h.beat; stands = f h.leg h.beat h.stands; sent_there = h.sent_there }

-- beats put on free legs

put_as : (x y z : Bool) (p : Party) (d b : Beat) → p.legs.out ≡ None → cond x p.legs.out (cond y p.legs.reply (cond z p.legs.entry None)) ≡ Some b →
    cond x (Some d) (cond y p.legs.reply (cond z p.legs.entry None)) ≡ Some b
put_as x y z p d b free e = grind arith

reply_as : (x y z : Bool) (p : Party) (d b : Beat) → p.legs.reply ≡ None → cond x p.legs.out (cond y p.legs.reply (cond z p.legs.entry None)) ≡ Some b →
    cond x p.legs.out (cond y (Some d) (cond z p.legs.entry None)) ≡ Some b
reply_as x y z p d b free e = grind arith

entry_as : (x y z : Bool) (p : Party) (d b : Beat) → p.legs.entry ≡ None → cond x p.legs.out (cond y p.legs.reply (cond z p.legs.entry None)) ≡ Some b →
    cond x p.legs.out (cond y p.legs.reply (cond z (Some d) None)) ≡ Some b
entry_as x y z p d b free e = grind arith

abbrev with_out : Beat → Party → Party
with_out d p = party p.note p.own (legs_of (Some d) p.legs.reply p.legs.entry)

abbrev with_reply : Beat → Party → Party
with_reply d p = party p.note p.own (legs_of p.legs.out (Some d) p.legs.entry)

abbrev pub with_entry : Beat → Party → Party
with_entry d p = party p.note p.own (legs_of p.legs.out p.legs.reply (Some d))

pub keeps_out : (p : Party) (d : Beat) → p.legs.out ≡ None → Keeps p (with_out d p)
keeps_out p d free leg b e = put_as (eqb leg 1) (eqb leg 2) (eqb leg 3) p d b free e

pub keeps_reply : (p : Party) (d : Beat) → p.legs.reply ≡ None → Keeps p (with_reply d p)
keeps_reply p d free leg b e = reply_as (eqb leg 1) (eqb leg 2) (eqb leg 3) p d b free e

pub keeps_entry : (p : Party) (d : Beat) → p.legs.entry ≡ None → Keeps p (with_entry d p)
keeps_entry p d free leg b e = entry_as (eqb leg 1) (eqb leg 2) (eqb leg 3) p d b free e

-- a beat taken off its leg

off_keeps : (taken leg : ℕ) (p : Party) (b d : Beat) → on_leg taken p ≡ Some b → on_leg leg p ≡ Some d → (leg ≡ taken → ⊥) → on_leg leg (off_leg taken p) ≡ Some d
off_keeps taken leg p b d held e apart = grind (arith, nat_tests)

same_beat : (taken leg : ℕ) (p : Party) (b d : Beat) → on_leg taken p ≡ Some b → on_leg leg p ≡ Some d → leg ≡ taken → d ≡ b
same_beat taken leg p b d held e same =
    ap (λ y. unwrap_or y b) (sym e ∙ ap (λ x. on_leg x p) same ∙ held)

-- one party, and beside it others: where G holds of a place, the beat that was sent there is on a leg of one of them
module _ (G : ℕ → Type 0) where
  abbrev pub Beside : List Happening → Party → Type 0
  Beside log p = Accounted log (λ k. G k ⊎ Has p k)

  pub beside_stays : (p p' : Party) (log : List Happening) → Keeps p p' → Beside log p → Beside log p'
  beside_stays p p' log f =
      weaken_accounted log (λ k. G k ⊎ Has p k) (λ k. G k ⊎ Has p' k) (λ k u. elim u [ inl g ↦ inl g | inr h ↦ inr (has_on p p' k f h) ])

  -- a record that is no sending
  pub beside_tells : (p : Party) (log : List Happening) (h : Happening) → (h.kind ≡ Sent → ⊥) → Beside log p → Beside (log ++ h ∷ []) p
  beside_tells p log h other = push log h (λ k. G k ⊎ Has p k) (λ k. G k ⊎ Has p k) (λ is. absurd (other is)) (λ k u. inr u)

  -- a record whose beat is put on a leg
  pub beside_puts : (p p' : Party) (leg : ℕ) (d : Beat) (log : List Happening) (h : Happening) → Keeps p p' → on_leg leg p' ≡ Some d → d.place ≡ length log →
      Beside log p → Beside (log ++ h ∷ []) p'
  beside_puts p p' leg d log h f e at =
      push log h (λ k. G k ⊎ Has p k) (λ k. G k ⊎ Has p' k) (λ is. inr (record { leg = leg; beat = d; stands = e; sent_there = at }))
      (λ k u. inr (elim u [ inl g ↦ inl g | inr x ↦ inr (has_on p p' k f x) ]))

  -- a record that settles the beat on a leg
  pub beside_takes : (taken : ℕ) (p : Party) (b : Beat) (log : List Happening) (h : Happening) → on_leg taken p ≡ Some b → settles h.kind ≡ true →
      (h.kind ≡ Sent → ⊥) → h.link ≡ b.place → Beside log p → Beside (log ++ h ∷ []) (off_leg taken p)
  beside_takes taken p b log h held is other of_b =
      push log h (λ k. G k ⊎ Has p k) (λ k. G k ⊎ Has (off_leg taken p) k) (λ same. absurd (other same))
      (λ k u. elim u [ inl g ↦ inr (inl g) | inr x ↦ left k x (eqb x.leg taken) refl ])
    where
      left : (k : ℕ) (x : Has p k) (t : Bool) → eqb x.leg taken ≡ t → SettledAt (log ++ h ∷ []) k ⊎ (G k ⊎ Has (off_leg taken p) k)
      left k x true e =
          let same = same_beat taken x.leg p b x.beat held x.stands (grind (arith, nat_tests)) in
          inl (subst (SettledAt (log ++ h ∷ [])) (of_b ∙ sym (ap (λ (y : Beat). y.place) same) ∙ x.sent_there) (settles_here log h is))
      left k x false e =
          inr (inr (record {
            leg = x.leg;
            beat = x.beat;
            stands = off_keeps taken x.leg p b x.beat held x.stands (λ same. absurd (grind (arith, nat_tests)));
            sent_there = x.sent_there;
          }))

-- from one party to each

get_set : {A : Type 0} (xs : List A) (i : ℕ) (a d : A) → i < length xs → get_or (set xs i a) i d ≡ a
get_set [] i a d h = absurd (omega arith)
get_set (x ∷ xs) zero a d h = refl
get_set (x ∷ xs) (suc i) a d h = get_set xs i a d (omega arith)

-- of another one of the first n parties than that at i
record Other (n i : ℕ) (ps : List Party) (k : ℕ) : Type 0 where
  pub at : ℕ
  pub below : at < n
  pub apart : at ≡ i → ⊥
  pub has : Has (get_or ps at nobody) k

split : (n i : ℕ) (ps : List Party) (k : ℕ) → HasOne n ps k → Other n i ps k ⊎ Has (get_or ps i nobody) k
split n i ps k h = go (eqb h.at i) refl
  where
    go : (b : Bool) → eqb h.at i ≡ b → Other n i ps k ⊎ Has (get_or ps i nobody) k
    go true e = inr (subst (λ j. Has (get_or ps j nobody) k) (grind (arith, nat_tests)) h.has)
    go false e = inl (record { at = h.at; below = h.below; apart = λ same. absurd (grind (arith, nat_tests)); has = h.has })

join : (n i : ℕ) (p : Party) (ps : List Party) (k : ℕ) → i < n → i < length ps → Other n i ps k ⊎ Has p k → HasOne n (set ps i p) k
join n i p ps k lo long (inl o) = record {
  at = o.at;
  below = o.below;
  has = set_each (λ q. Has q k) ps i o.at p nobody (λ same. absurd (o.apart (sym same))) o.has;
}
join n i p ps k lo long (inr h) = record { at = i; below = lo; has = subst (λ q. Has q k) (sym (get_set ps i p nobody long)) h }

-- one party has changed, with what its turn has written
pub beats_changes :
    (n i : ℕ) (p : Party) (ps : List Party) (log log' : List Happening) → i < n → n ≤ length ps →
    ((G : ℕ → Type 0) → Beside G log (get_or ps i nobody) → Beside G log' p) →
    Accounted log (HasOne n ps) → Accounted log' (HasOne n (set ps i p))
beats_changes n i p ps log log' lo long turn a =
    weaken_accounted log' (λ k. Other n i ps k ⊎ Has p k) (HasOne n (set ps i p)) (λ k. join n i p ps k lo (omega arith))
    (turn (Other n i ps) (weaken_accounted log (HasOne n ps) (λ k. Other n i ps k ⊎ Has (get_or ps i nobody) k) (λ k. split n i ps k) a))

-- a pass over the parties, with what the turn of each has written
module _ (P : Party → Type 0) (f : ℕ → List Happening → Party → Party) (g : ℕ → List Happening → Party → List Happening)
    (turn : (G : ℕ → Type 0) (j : ℕ) (log : List Happening) (p : Party) → P p → Beside G log p → Beside G (g j log p) (f j log p)) where
  uncons : (n : ℕ) (p : Party) (ps : List Party) (F : ℕ → Type 0) (k : ℕ) → F k ⊎ HasOne (suc n) (p ∷ ps) k → (F k ⊎ HasOne n ps k) ⊎ Has p k
  uncons n p ps F k (inl x) = inl (inl x)
  uncons n p ps F k (inr h) = go h.at h.below h.has
    where
      go : (at : ℕ) → at < suc n → Has (get_or (p ∷ ps) at nobody) k → (F k ⊎ HasOne n ps k) ⊎ Has p k
      go zero below has = inr has
      go (suc at) below has = inl (inr (record { at = at; below = omega arith; has = has }))

  regroup : (n : ℕ) (p : Party) (ps : List Party) (F : ℕ → Type 0) (k : ℕ) → (F k ⊎ HasOne n ps k) ⊎ Has p k → (F k ⊎ Has p k) ⊎ HasOne n ps k
  regroup n p ps F k (inl (inl x)) = inl (inl x)
  regroup n p ps F k (inl (inr h)) = inr h
  regroup n p ps F k (inr h) = inl (inr h)

  recons : (n : ℕ) (p : Party) (ps : List Party) (F : ℕ → Type 0) (k : ℕ) → (F k ⊎ Has p k) ⊎ HasOne n ps k → F k ⊎ HasOne (suc n) (p ∷ ps) k
  recons n p ps F k (inl (inl x)) = inl x
  recons n p ps F k (inl (inr h)) = inr (record { at = 0; below = omega arith; has = h })
  recons n p ps F k (inr h) = inr (record { at = suc h.at; below = omega (arith, h.below); has = h.has })

  passes_on : (F : ℕ → Type 0) (j n : ℕ) (log : List Happening) (ps : List Party) → ((k : ℕ) → k < n → P (get_or ps k nobody)) →
      Accounted log (λ k. F k ⊎ HasOne n ps k) → Accounted (folds g j n log ps) (λ k. F k ⊎ HasOne n (walks f g j n log ps) k)
  passes_on F j zero log ps each a = a
  passes_on F j (suc n) log [] each a = a
  passes_on F j (suc n) log (p ∷ ps) each a =
      let p' = f j log p in
      let log' = g j log p in
      let turned = turn (λ k. F k ⊎ HasOne n ps k) j log p (each 0 (omega arith))
      (weaken_accounted log (λ k. F k ⊎ HasOne (suc n) (p ∷ ps) k) (λ k. (F k ⊎ HasOne n ps k) ⊎ Has p k) (uncons n p ps F) a) in
      let rest = passes_on (λ k. F k ⊎ Has p' k) (suc j) n log' ps (λ k h. each (suc k) (omega arith))
      (weaken_accounted log' (λ k. (F k ⊎ HasOne n ps k) ⊎ Has p' k) (λ k. (F k ⊎ Has p' k) ⊎ HasOne n ps k) (regroup n p' ps F) turned) in
      let ps' = walks f g (suc j) n log' ps in
      weaken_accounted (folds g (suc j) n log' ps) (λ k. (F k ⊎ Has p' k) ⊎ HasOne n ps' k) (λ k. F k ⊎ HasOne (suc n) (p' ∷ ps') k) (recons n p' ps' F) rest

  pub only : (n : ℕ) (ps : List Party) (k : ℕ) → ⊥ ⊎ HasOne n ps k → HasOne n ps k
  only n ps k (inl x) = absurd x
  only n ps k (inr h) = h

  pub beats_pass : (n : ℕ) (log : List Happening) (ps : List Party) → ((k : ℕ) → k < n → P (get_or ps k nobody)) →
      Accounted log (HasOne n ps) → Accounted (folds g 1 n log ps) (HasOne n (walks f g 1 n log ps))
  beats_pass n log ps each a =
      weaken_accounted (folds g 1 n log ps) (λ k. ⊥ ⊎ HasOne n (walks f g 1 n log ps) k) (HasOne n (walks f g 1 n log ps)) (only n (walks f g 1 n log ps))
      (passes_on (λ _. ⊥) 1 n log ps each (weaken_accounted log (HasOne n ps) (λ k. ⊥ ⊎ HasOne n ps k) (λ k h. inr h) a))

module _ (rules : Rules) where
  abbrev n : ℕ
  n = rules.plan.n

  abbrev m : Meaning
  m = rules.meaning

  abbrev pub AllAccounted : State → Type 0
  AllAccounted s = Accounted s.log (HasOne n s.table.parties)

  -- a record that is no sending, of one party or of the root
  pub beats_tell_one : (j : ℕ) (p : Party) (s : State) (h : Happening) → 1 ≤ j → j ≤ n → (h.kind ≡ Sent → ⊥) → Keeps (the j s.table) p → n ≤ length s.table.parties → AllAccounted s →
      Accounted (s.log ++ h ∷ []) (HasOne n (set s.table.parties (j - 1) p))
  beats_tell_one j p s h lo hi other keeps long a =
      beats_changes n (j - 1) p s.table.parties s.log (s.log ++ h ∷ []) (omega arith) long
      (λ G b. beside_stays G (the j s.table) p (s.log ++ h ∷ []) keeps (beside_tells G (the j s.table) s.log h other b)) a

  pub beats_tell_root : (s : State) (h : Happening) → (h.kind ≡ Sent → ⊥) → AllAccounted s → Accounted (s.log ++ h ∷ []) (HasOne n s.table.parties)
  beats_tell_root s h other = push s.log h (HasOne n s.table.parties) (HasOne n s.table.parties) (λ is. absurd (other is)) (λ k u. inr u)
