-- Lists that grow: what a caller of several appends cites.
use Rattle.std.proofs.Common.{◌≡◌, ℕ, ◌+◌, ◌-◌, ◌≤◌, List, [], ◌++◌, length, drop, sym, refl, ap, ◌∙◌, arith, take-append-drop}
use Rattle.std.proofs.lemmas.List.{length-append, length-drop, length-take-le, drop-drop}
use Rattle.slots.specs.declared.SlotList.{SlotList}
use Rattle.slots.specs.Slots.{items, spare, capacity, Appends, Extends}

module _ {X : Type 0} where
  pub items_length : (l : SlotList X) → length (items l) ≡ l.len
  items_length l = length-take-le l.len l.slots.now l.within

  -- the slots are the records and then the spare ones
  pub whole : (l : SlotList X) → l.slots.now ≡ items l ++ spare l
  whole l = sym (take-append-drop l.len l.slots.now)

  -- the items and the slots behind them are all the slots there are
  pub slots_all : (l : SlotList X) → length (items l) + length (spare l) ≡ capacity l
  slots_all l = omega (arith, items_length l, length-drop l.len l.slots.now, l.within)

  -- the slots of a new list are those that were lent
  pub fresh : (l : SlotList X) (xs : List X) → items l ≡ [] → spare l ≡ xs → l.slots.now ≡ xs
  fresh l xs e f = whole l ∙ ap (λ (ys : List X). ys ++ spare l) e ∙ f

  pub extends_refl : (l : SlotList X) → Extends l l
  extends_refl l = record { lent = refl; long = refl; grows = omega arith; later = refl }

  -- what is kept from n on is kept from a later place on
  drop_later : (xs ys : List X) (n m : ℕ) → n ≤ m → drop n xs ≡ drop n ys → drop m xs ≡ drop m ys
  drop_later xs ys n m le e =
      let at : n + (m - n) ≡ m = omega arith in
      ap (λ (k : ℕ). drop k xs) (sym at)
      ∙ sym (drop-drop (m - n) n xs) ∙ ap (λ (zs : List X). drop (m - n) zs) e ∙ drop-drop (m - n) n ys
      ∙ ap (λ (k : ℕ). drop k ys) at

  pub extends_trans : (a b c : SlotList X) → Extends a b → Extends b c → Extends a c
  extends_trans a b c p q =
      record {
        lent = q.lent ∙ p.lent;
        long = q.long ∙ p.long;
        grows = omega (arith, p.grows, q.grows);
        later = q.later ∙ drop_later b.slots.now a.slots.now b.len c.len q.grows p.later;
      }

  -- how many records there are after an append
  pub len_after : (l l' : SlotList X) (rs : List X) → Appends l l' rs → l'.len ≡ l.len + length rs
  len_after l l' rs p =
      omega (arith, items_length l, items_length l', ap length p.records, length-append (items l) rs)

  pub appended_extends : (l l' : SlotList X) (rs : List X) → Appends l l' rs → Extends l l'
  appended_extends l l' rs p =
      let n = len_after l l' rs p in
      record {
        lent = p.lent;
        long = p.long;
        grows = omega arith;
        later = p.spares ∙ drop-drop (length rs) l.len l.slots.now ∙ ap (λ (k : ℕ). drop k l.slots.now) (sym n);
      }
