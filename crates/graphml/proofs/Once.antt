-- Each place of the log stands once in its file.
use Rattle.std.proofs.Common.{◌≡◌, ℕ, zero, suc, ◌+◌, ◌<◌, ◌≤◌, ◌==◌, Bool, true, false, cond, List, [], ◌∷◌, ◌++◌, map, length, take, refl, ap, ◌∙◌, subst, zero-add, eq-eqb, ne_eqb, eqb-true, ltb, ⊎_elim, arith, Some}
use Rattle.std.specs.List.{flat_map, All}
use Rattle.std.proofs.lemmas.List.Elements.{All-cons}
use borrow.Author.Tests.{ltb-true, ltb-false}
use Rattle.std.proofs.lemmas.Bool.{cases_Bool, eqb-false}
use Rattle.protocol.specs.declared.happening.Happening.{Happening}
use Rattle.protocol.specs.Beats.{Edge, edge as arc, edges, happening_at, is_arrival, Linked}
use Rattle.graphml.specs.Reading.{Entry, Item, happened, joined, place_of, places_read}
use Rattle.protocol.specs.Order.{OwnedUpTo}
use Rattle.graphml.specs.Log.{entry, entries, items_from, items_of, occurrences, HasBothEnds, all_read}
use Rattle.graphml.proofs.Told.{read}
use Rattle.graphml.proofs.Found.{split_places}

-- how often place k stands among these items
abbrev occurrences_in : ℕ → List Item → ℕ
occurrences_in k xs = occurrences k (flat_map place_of (read xs))

occurrences-append : (k : ℕ) (xs ys : List ℕ) → occurrences k (xs ++ ys) ≡ occurrences k xs + occurrences k ys
occurrences-append k [] ys = omega arith
occurrences-append k (j ∷ xs) ys = let rest = occurrences-append k xs ys in omega arith

-- one party's records among hs, from place j on: a place that is none of hs's stands nowhere,
-- and each of the party's stands once
elsewhere : (i j k : ℕ) (hs : List Happening) → ((d : ℕ) → d < length hs → j + d ≡ k → ⊥)
    → occurrences_in k (map (happened i) (entries i j hs)) ≡ 0
elsewhere i j k [] h = refl
elsewhere i j k (w ∷ hs) h =
    let rest : List Entry = entries i (j + 1) hs in
    let other : (j == k) ≡ false = ne_eqb j k (λ e. h 0 (omega arith) (omega arith)) in
    let later : occurrences_in k (map (happened i) rest) ≡ 0 = elsewhere i (j + 1) k hs (λ d x e. h (suc d) (omega arith) (omega arith)) in
    elim (w.owner == i) as (λ (b : Bool). occurrences_in k (map (happened i) (cond b (entry j w ∷ rest) rest)) ≡ 0) [
      | true ↦ ap (λ (b : Bool). cond b 1 0 + occurrences_in k (map (happened i) rest)) other ∙ zero-add (occurrences_in k (map (happened i) rest)) ∙ later
      | false ↦ later
    ]

own : (i j d : ℕ) (hs : List Happening) → d < length hs → occurrences_in (j + d) (map (happened i) (entries i j hs)) ≡ cond ((happening_at hs d).owner == i) 1 0
own i j d [] h = absurd (omega arith)
own i j zero (w ∷ hs) h =
    let rest : List Entry = entries i (j + 1) hs in
    let same : (j == j + 0) ≡ true = eq-eqb j (j + 0) (omega arith) in
    let later : occurrences_in (j + 0) (map (happened i) rest) ≡ 0 = elsewhere i (j + 1) (j + 0) hs (λ d x e. omega arith) in
    elim (w.owner == i) as (λ (b : Bool). occurrences_in (j + 0) (map (happened i) (cond b (entry j w ∷ rest) rest)) ≡ cond b 1 0) [
      | true ↦ (λ x. cond (same x) 1 0 + later x)
      | false ↦ later
    ]
own i j (suc d) (w ∷ hs) h =
    let rest : List Entry = entries i (j + 1) hs in
    let other : (j == j + suc d) ≡ false = ne_eqb j (j + suc d) (λ e. omega arith) in
    let at : j + 1 + d ≡ j + suc d = omega arith in
    let later : occurrences_in (j + suc d) (map (happened i) rest) ≡ cond ((happening_at hs d).owner == i) 1 0 =
    subst (λ (k : ℕ). occurrences_in k (map (happened i) rest) ≡ cond ((happening_at hs d).owner == i) 1 0) at (own i (j + 1) d hs (omega arith)) in
    elim (w.owner == i) as (λ (b : Bool). occurrences_in (j + suc d) (map (happened i) (cond b (entry j w ∷ rest) rest)) ≡ cond ((happening_at hs d).owner == i) 1 0) [
      | true ↦ ap (λ (b : Bool). cond b 1 0 + occurrences_in (j + suc d) (map (happened i) rest)) other ∙ zero-add (occurrences_in (j + suc d) (map (happened i) rest)) ∙ later
      | false ↦ later
    ]

no_edge : (k : ℕ) (es : List Edge) → occurrences_in k (map joined es) ≡ 0
no_edge k [] = refl
no_edge k (e ∷ es) = no_edge k es

-- a party's own records stand before those of the parties behind it
behind : (log : List Happening) (k i m : ℕ)
    → occurrences_in k (items_from log i (suc m)) ≡ occurrences_in k (map (happened i) (entries i 0 log)) + occurrences_in k (items_from log (i + 1) m)
behind log k i m =
    ap (occurrences k) (split_places (map (happened i) (entries i 0 log)) (items_from log (i + 1) m))
    ∙ occurrences-append k (flat_map place_of (read (map (happened i) (entries i 0 log)))) (flat_map place_of (read (items_from log (i + 1) m)))

module _ (log : List Happening) (k : ℕ) (here : k < length log) where
  abbrev owner : ℕ
  owner = (happening_at log k).owner

  one_more : (i m : ℕ) → occurrences_in k (items_from log i (suc m)) ≡ cond (owner == i) 1 0 + occurrences_in k (items_from log (i + 1) m)
  one_more i m =
      behind log k i m
      ∙ ap (λ (x : ℕ). x + occurrences_in k (items_from log (i + 1) m)) (subst (λ (j : ℕ). occurrences_in j (map (happened i) (entries i 0 log)) ≡ cond (owner == i) 1 0) (zero-add k) (own i 0 k log here))

  past_it : (i m : ℕ) → owner < i → occurrences_in k (items_from log i m) ≡ 0
  past_it i zero h = no_edge k (edges 0 log)
  past_it i (suc m) h =
      let other : (owner == i) ≡ false = ne_eqb owner i (λ e. omega arith) in
      one_more i m ∙ rw other (zero-add (occurrences_in k (items_from log (i + 1) m)) ∙ past_it (i + 1) m (omega arith))

  once : (i m : ℕ) → i ≤ owner → owner < i + m → occurrences_in k (items_from log i m) ≡ 1
  once i zero h l = absurd (omega arith)
  once i (suc m) h l =
      one_more i m
      ∙ ⊎_elim
      (λ e. let same : owner ≡ i = eqb-true owner i e in rw (e, past_it (i + 1) m (omega arith)) refl)
      (λ e. let other : owner ≡ i → ⊥ = eqb-false owner i e in rw e (zero-add (occurrences_in k (items_from log (i + 1) m)) ∙ once (i + 1) m (omega arith) (omega arith)))
      (cases_Bool (owner == i))

  once_at_most : (i m : ℕ) → occurrences_in k (items_from log i m) ≤ 1
  once_at_most i zero = let none = no_edge k (edges 0 log) in omega arith
  once_at_most i (suc m) =
      let after : ℕ = occurrences_in k (items_from log (i + 1) m) in
      ⊎_elim
      (λ e.
      let same : owner ≡ i = eqb-true owner i e in
      let none : after ≡ 0 = past_it (i + 1) m (omega arith) in
      let all : occurrences_in k (items_from log i (suc m)) ≡ 1 = one_more i m ∙ (λ x. cond (e x) 1 0 + none x) in
      omega arith)
      (λ e.
      let rest : after ≤ 1 = once_at_most (i + 1) m in
      let all : occurrences_in k (items_from log i (suc m)) ≡ 0 + after = one_more i m ∙ ap (λ (b : Bool). cond b 1 0 + after) e in
      omega arith)
      (cases_Bool (owner == i))

-- no place past the log's end
none_past : (log : List Happening) (k : ℕ) → length log ≤ k → (i m : ℕ) → occurrences_in k (items_from log i m) ≡ 0
none_past log k h i zero = no_edge k (edges 0 log)
none_past log k h i (suc m) =
    behind log k i m
    ∙ (λ x. elsewhere i 0 k log (λ d y e. omega arith) x + none_past log k h (i + 1) m x)

pub places_once_at_most : (n : ℕ) (log : List Happening) (k : ℕ) → occurrences_in k (items_of n log) ≤ 1
places_once_at_most n log k =
    ⊎_elim
    (λ l. once_at_most log k (ltb-true k (length log) l) 0 (n + 1))
    (λ l. let past_end = ltb-false k (length log) l in let none = none_past log k (omega arith) 0 (n + 1) in omega arith)
    (cases_Bool (ltb k (length log)))

-- of a first part no more
pub fewer : (k c : ℕ) (xs : List Item) → occurrences_in k (take c xs) ≤ occurrences_in k xs
fewer k zero xs = omega arith
fewer k (suc c) [] = omega arith
fewer k (suc c) (happened i e ∷ xs) = let rest = fewer k c xs in omega arith
fewer k (suc c) (joined e ∷ xs) = fewer k c xs

pub places_once : (n : ℕ) (log : List Happening) → OwnedUpTo n log → (k : ℕ) → k < length log → occurrences_in k (items_of n log) ≡ 1
places_once n log within k here = let h = within k here in once log k here 0 (n + 1) (omega arith) (omega arith)

-- both ends of each edge are places of the log
module _ (bs : List ℕ) (log : List Happening) (once_each : (k : ℕ) → k < length log → occurrences k (places_read bs) ≡ 1) where
  both : (b : Bool) (e : Edge) (es : List Edge) → (b ≡ true → HasBothEnds bs (Some e)) → All (HasBothEnds bs) (all_read es) → All (HasBothEnds bs) (all_read (cond b (e ∷ es) es))
  both true e es p q = All-cons (HasBothEnds bs) (Some e) (all_read es) (p refl) q
  both false e es p q = q

  joined_from : (k : ℕ) (hs : List Happening) → k + length hs ≤ length log → ((d : ℕ) → d < length hs → is_arrival (happening_at hs d).kind ≡ true → (happening_at hs d).link < length log) →
      All (HasBothEnds bs) (all_read (edges k hs))
  joined_from k [] h links = λ j d l. absurd (omega arith)
  joined_from k (w ∷ hs) h links =
      both (is_arrival w.kind) (arc w.link k) (edges (suc k) hs)
      (λ e. (once_each w.link (links 0 (omega arith) e), once_each k (omega arith)))
      (joined_from (suc k) hs (omega arith) (λ d l. links (suc d) (omega arith)))

  pub ends_found : (n : ℕ) → Linked n log → All (HasBothEnds bs) (all_read (edges 0 log))
  ends_found n linked = joined_from 0 log (omega arith) (λ d l e. let at = (linked d l e).earlier in omega arith)
