-- A list in slots, by its records and its spare slots.
use Rattle.std.specs.Prelude.{◌≡◌, ℕ, ◌-◌, ◌<◌, ◌≤◌, if◌then◌else◌, List, ◌++◌, map, length, take, drop, Ok, Err, Option, Result, MatchOption, ◌==◌, nat_lt, nat_le, slice_index}
use Rattle.std.specs.List.{position}
use Rattle.std.specs.List.Sorted.{IsNonDecreasingBy}
use Rattle.slots.specs.declared.SlotList.{SlotList}
use Rattle.slots.specs.declared.refusal.Refusal.{Refusal}
use Rattle.slots.specs.declared.refusal.Refusal.TheVariants.{NoSlot, Earlier}

module _ {X : Type 0} where
  -- the records, first to last
  abbrev pub items : SlotList X → List X
  items l = take l.len l.slots.now

  -- what the slots past the last record hold
  abbrev pub spare : SlotList X → List X
  spare l = drop l.len l.slots.now

  -- how many slots were lent
  abbrev pub capacity : SlotList X → ℕ
  capacity l = length l.slots.now

  -- the time of the last record, 0 where there is none
  abbrev pub last_time : (X → ℕ) → List X → ℕ
  last_time time xs = slice_index (map time xs) (length xs - 1)

  -- in a list whose times never fall, the last record's is at least every record's
  abbrev pub LastIsLatest : (X → ℕ) → List X → Type 0
  LastIsLatest time xs =
      IsNonDecreasingBy time xs → (k : ℕ) → k < length xs
      → slice_index (map time xs) k ≤ last_time time xs

  -- the answer to an append of x to the records xs with the spare slots ys: is a slot free, and is
  -- x's time at least the last record's
  abbrev pub append_answer : (X → ℕ) → List X → List X → X → Result (Unit {0}) Refusal
  append_answer time xs ys x =
      if length ys == 0 then Err NoSlot else
      (if nat_lt (time x) (last_time time xs) then Err Earlier else Ok tt)

  -- rs were appended, in as many of the spare slots, and every other slot is as it was
  pub record Appends (l l' : SlotList X) (rs : List X) : Type 0 where
    pub records : items l' ≡ items l ++ rs
    pub spares : spare l' ≡ drop (length rs) (spare l)
    pub lent : l'.slots.ghost_name ≡ l.slots.ghost_name
    pub long : capacity l' ≡ capacity l

  -- l' grew out of l: the same slots, no record less, and every slot past the last record of l'
  -- holds what it held
  pub record Extends (l l' : SlotList X) : Type 0 where
    pub lent : l'.slots.ghost_name ≡ l.slots.ghost_name
    pub long : capacity l' ≡ capacity l
    pub grows : l.len ≤ l'.len
    pub later : drop l'.len l'.slots.now ≡ drop l'.len l.slots.now

  -- every one of the first n records comes before t
  abbrev pub Before : (X → ℕ) → ℕ → List X → ℕ → Type 0
  Before time t xs n = (k : ℕ) → k < n → slice_index (map time xs) k < t

  -- the first place whose time is at least t, or that there is none
  abbrev pub First : (X → ℕ) → ℕ → List X → Option ℕ → Type 0
  First time t xs r =
      MatchOption r (Before time t xs (length xs))
      (λ p. (p < length xs) × (t ≤ slice_index (map time xs) p) × Before time t xs p)

  -- the same place, by a search
  abbrev pub first_place : (X → ℕ) → ℕ → List X → Option ℕ
  first_place time t xs = position (λ x. nat_le t (time x)) xs
