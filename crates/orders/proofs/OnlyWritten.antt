-- Only what is written so loads.
use Rattle.std.proofs.Common.{◌≡◌, ℕ, zero, suc, ◌+◌, ◌*◌, ◌/◌, ◌%◌, ◌<◌, ◌≤◌, Bool, true, false, cond, eqb, ◌&&◌, List, [], ◌∷◌, ◌++◌, length, get_or, drop, Some, None, Ok, Err, Option, Result, sym, refl, ap, ◌∙◌, append_assoc, arith}
use Rattle.std.specs.List.{All, flat_map}
use Rattle.std.proofs.lemmas.List.{drop_more, drop_all, append-nil}
use Rattle.std.proofs.lemmas.List.Elements.{All-get_or}
use Rattle.std.proofs.lemmas.Bool.{eqb-true, leb-true}
use Rattle.slots.specs.declared.refusal.Refusal.{Refusal}
use Rattle.protocol.specs.declared.kind.GroupKind.{GroupKind}
use Rattle.protocol.specs.declared.kind.GroupKind.TheVariants.{Closed, Expanding, Dynamic}
use Rattle.protocol.specs.Kinds.{group_kind, group_number}
use Rattle.orders.specs.declared.fault.ReadCause.TheVariants.{NotWhole}
use Rattle.orders.specs.declared.fault.ReadFault.{ReadFault}
use Rattle.orders.specs.declared.order.Order.{Order}
use Rattle.orders.specs.declared.order.OrderKind.{OrderKind}
use Rattle.orders.specs.declared.order.OrderKind.TheVariants.{Deliver, Lose, Crash, Join, Leave, Wait}
use Rattle.orders.specs.declared.start.PaceKind.{PaceKind}
use Rattle.orders.specs.declared.start.PaceKind.TheVariants.{Halving, TwoPhase}
use Rattle.orders.specs.declared.start.Start.{Start}
use Rattle.orders.specs.Kinds.{order_kind, order_number, pace_kind, pace_number}
use Rattle.orders.specs.Reading.{is_whole, number_at, fault, order_at, order_of, start_at, start_of}
use Rattle.orders.specs.Writing.{number_bytes, order_bytes, start_bytes, bytes_of_file}
use Rattle.orders.specs.Loading.{LoadOutcome, append_outcome, record_outcome, orders_from, start_outcome, LoadedFilesAreWritten}

differ : {A : Type 0} → ◌≡◌ {A = ℕ} 0 1 → A
differ e = absurd (omega (arith, e))

module _ {X : Type 0} (f : X → ℕ) (b n : ℕ) (x y : X) (rest : Option X) (e : f x ≡ n) (other : rest ≡ Some y → f y ≡ b) where
  row_as : (t : Bool) → eqb b n ≡ t → cond t (Some x) rest ≡ Some y → f y ≡ b
  row_as true t h = let z : x ≡ y = cc in ap f (sym z) ∙ e ∙ sym (eqb-true b n t)
  row_as false t h = other h

  -- a row of a table of kinds: b is the number n of x, or the rows below it tell
  row : cond (eqb b n) (Some x) rest ≡ Some y → f y ≡ b
  row h = row_as (eqb b n) refl h

no_row : {X : Type 0} {A : Type 0} (y : X) → ◌≡◌ {A = Option X} None (Some y) → A
no_row y h = differ (let z : ◌≡◌ {A = ℕ} 0 1 = cc in z)

order_kind_back : (b : ℕ) (k : OrderKind) → order_kind b ≡ Some k → order_number k ≡ b
order_kind_back b k =
    row order_number b 1 Deliver k _ refl (row order_number b 2 Lose k _ refl (row order_number b 3 Crash k _ refl
    (row order_number b 4 Join k _ refl (row order_number b 5 Leave k _ refl (row order_number b 6 Wait k None refl (no_row k))))))

pace_kind_back : (b : ℕ) (k : PaceKind) → pace_kind b ≡ Some k → pace_number k ≡ b
pace_kind_back b k = row pace_number b 1 Halving k _ refl (row pace_number b 2 TwoPhase k None refl (no_row k))

group_kind_back : (b : ℕ) (k : GroupKind) → group_kind b ≡ Some k → group_number k ≡ b
group_kind_back b k =
    row group_number b 1 Closed k _ refl (row group_number b 2 Expanding k _ refl (row group_number b 3 Dynamic k None refl (no_row k)))

-- the bytes of a number are those that it was read from
digits : (a b c d : ℕ) → a < 256 → b < 256 → c < 256 → d < 256 → number_bytes (a * 16777216 + b * 65536 + c * 256 + d) ≡ a ∷ b ∷ c ∷ d ∷ []
digits a b c d e f g h =
    let n : ℕ = a * 16777216 + b * 65536 + c * 256 + d in
    let w : n / 16777216 % 256 ≡ a = omega arith in
    let x : n / 65536 % 256 ≡ b = omega arith in
    let y : n / 256 % 256 ≡ c = omega arith in
    let z : n % 256 ≡ d = omega arith in
    λ i. w i ∷ x i ∷ y i ∷ z i ∷ []

-- n bytes from place i on
abbrev gets : ℕ → ℕ → List ℕ → List ℕ
gets zero i bs = []
gets (suc n) i bs = get_or bs i 0 ∷ gets n (i + 1) bs

split : (n i : ℕ) (bs : List ℕ) → i + n ≤ length bs → drop i bs ≡ gets n i bs ++ drop (i + n) bs
split zero i bs h = ap (λ k. drop k bs) (omega arith)
split (suc n) i bs h =
    drop_more bs i 0 (omega arith)
    ∙ ap (λ r. get_or bs i 0 ∷ r) (split n (i + 1) bs (omega arith) ∙ ap (λ k. gets n (i + 1) bs ++ drop k bs) (omega arith))

-- a record that is whole has its bytes, the first two being the mark
record Has (mark : List ℕ) (size : ℕ) (bs : List ℕ) (at : ℕ) : Type 0 where
  pub within : at + size ≤ length bs
  pub first : get_or bs at 0 ≡ get_or mark 0 0
  pub second : get_or bs (at + 1) 0 ≡ get_or mark 1 0

both : (a b : Bool) → a && b ≡ true → (a ≡ true) × (b ≡ true)
both true true h = (refl, refl)
both true false h = differ cc
both false b h = differ cc

has : (mark : List ℕ) (size : ℕ) (bs : List ℕ) (at : ℕ) → is_whole mark size bs at ≡ true → Has mark size bs at
has mark size bs at h =
    let p = both _ _ h in
    let q = both _ _ p.1 in
    record { within = leb-true _ _ p.0; first = eqb-true _ _ q.0; second = eqb-true _ _ q.1 }

module _ (bs : List ℕ) (small : All (λ b. b < 256) bs) where
  byte : (i : ℕ) → i < length bs → get_or bs i 0 < 256
  byte i h = All-get_or (λ b. b < 256) bs i 0 h small

  digits_at : (i : ℕ) → i + 4 ≤ length bs → number_bytes (number_at bs i) ≡ gets 4 i bs
  digits_at i h =
      let two : i + 2 ≡ i + 1 + 1 = omega arith in
      let three : i + 3 ≡ i + 1 + 1 + 1 = omega arith in
      digits _ _ _ _ (byte i (omega arith)) (byte (i + 1) (omega arith)) (byte (i + 2) (omega arith)) (byte (i + 3) (omega arith))
      ∙ (λ j. get_or bs i 0 ∷ get_or bs (i + 1) 0 ∷ get_or bs (two j) 0 ∷ get_or bs (three j) 0 ∷ [])

  module _ (at : ℕ) where
    -- an order that was read, b being whether its record is whole and k its kind
    record OrderSeen (b : Bool) (k : Option OrderKind) (o : Order) : Type 0 where
      pub marked : b ≡ true
      pub kind : k ≡ Some o.kind
      pub party : o.party ≡ get_or bs (at + 3) 0
      pub leg : o.leg ≡ get_or bs (at + 4) 0
      pub tick : o.tick ≡ number_at bs (at + 5)

    order_seen : (a b : Bool) (k : Option OrderKind) (o : Order) →
        cond a (Ok None) (cond b (order_of bs at k) (Err (fault at NotWhole))) ≡ Ok (Some o) → OrderSeen b k o
    order_seen true b k o h = no_row o (let z : ◌≡◌ {A = Option Order} None (Some o) = cc in z)
    order_seen false false k o h = differ cc
    order_seen false true None o h = differ cc
    order_seen false true (Some k) o h =
        let party = get_or bs (at + 3) 0 in
        let leg = get_or bs (at + 4) 0 in
        let z : record { kind = k; party = party; leg = leg; tick = number_at bs (at + 5) } ≡ o = cc in
        let back = sym z in
        record {
          marked = refl;
          kind = ap (λ x. Some x.kind) z;
          party = ap (λ x. x.party) back;
          leg = ap (λ x. x.leg) back;
          tick = ap (λ x. x.tick) back;
        }

    -- it has the bytes that it is written as
    order_back : (o : Order) → order_at bs at ≡ Ok (Some o) → (at + 9 ≤ length bs) × (order_bytes o ≡ gets 9 at bs)
    order_back o h =
        let m = order_seen (eqb at (length bs)) (is_whole (0x48 ∷ 0x4F ∷ []) 9 bs at) (order_kind (get_or bs (at + 2) 0)) o h in
        let w = has (0x48 ∷ 0x4F ∷ []) 9 bs at m.marked in
        let e2 : at + 2 ≡ at + 1 + 1 = omega arith in
        let e3 : at + 3 ≡ at + 1 + 1 + 1 = omega arith in
        let e4 : at + 4 ≡ at + 1 + 1 + 1 + 1 = omega arith in
        let e5 : at + 5 ≡ at + 1 + 1 + 1 + 1 + 1 = omega arith in
        let k = order_kind_back _ _ m.kind ∙ ap (λ i. get_or bs i 0) e2 in
        let p = m.party ∙ ap (λ i. get_or bs i 0) e3 in
        let l = m.leg ∙ ap (λ i. get_or bs i 0) e4 in
        let t = ap number_bytes m.tick ∙ digits_at (at + 5) (omega (arith, w.within)) ∙ ap (λ i. gets 4 i bs) e5 in
        (w.within, λ j. sym w.first j ∷ sym w.second j ∷ k j ∷ p j ∷ l j ∷ t j)

    no_order : (a b : Bool) (k : Option OrderKind) →
        cond a (Ok None) (cond b (order_of bs at k) (Err (fault at NotWhole))) ≡ Ok None → a ≡ true
    no_order true b k h = refl
    no_order false false k h = differ cc
    no_order false true None h = differ cc
    no_order false true (Some k) h = differ cc

  -- the same of a start record, g being its kind and p its pace
  record StartSeen (b : Bool) (g : Option GroupKind) (p : Option PaceKind) (s : Start) : Type 0 where
    pub marked : b ≡ true
    pub kind : g ≡ Some s.kind
    pub pace : p ≡ Some s.pace
    pub parties : s.parties ≡ get_or bs 3 0
    pub tmin : s.tmin ≡ number_at bs 4
    pub tmax : s.tmax ≡ number_at bs 8
    pub cap : s.cap ≡ get_or bs 13 0

  start_seen : (b : Bool) (g : Option GroupKind) (p : Option PaceKind) (s : Start) →
      cond b (start_of bs 0 g p) (Err (fault 0 NotWhole)) ≡ Ok s → StartSeen b g p s
  start_seen false g p s h = differ cc
  start_seen true None p s h = differ cc
  start_seen true (Some g) None s h = differ cc
  start_seen true (Some g) (Some p) s h =
      let tmin = number_at bs 4 in
      let tmax = number_at bs 8 in
      let z : record { kind = g; parties = get_or bs 3 0; tmin = tmin; tmax = tmax; pace = p; cap = get_or bs 13 0 } ≡ s = cc in
      let back = sym z in
      record {
        marked = refl;
        kind = ap (λ x. Some x.kind) z;
        pace = ap (λ x. Some x.pace) z;
        parties = ap (λ x. x.parties) back;
        tmin = ap (λ x. x.tmin) back;
        tmax = ap (λ x. x.tmax) back;
        cap = ap (λ x. x.cap) back;
      }

  start_back : (s : Start) → start_at bs 0 ≡ Ok s → (14 ≤ length bs) × (start_bytes s ≡ gets 14 0 bs)
  start_back s h =
      let m = start_seen (is_whole (0x48 ∷ 0x47 ∷ []) 14 bs 0) (group_kind (get_or bs 2 0)) (pace_kind (get_or bs 12 0)) s h in
      let w = has (0x48 ∷ 0x47 ∷ []) 14 bs 0 m.marked in
      let t = ap number_bytes m.tmin ∙ digits_at 4 (omega (arith, w.within)) in
      let u = ap number_bytes m.tmax ∙ digits_at 8 (omega (arith, w.within)) in
      let k = group_kind_back _ _ m.kind in
      let p = pace_kind_back _ _ m.pace in
      (w.within, λ j. sym w.first j ∷ sym w.second j ∷ k j ∷ m.parties j ∷ (t j ++ (u j ++ (p j ∷ m.cap j ∷ []))))

  -- what reading on from a place with the start s came to, where it gave the start s'
  record Read (s s' : Start) (at : ℕ) (xs : List Order) (out : LoadOutcome) : Type 0 where
    pub start : s' ≡ s
    pub orders : List Order
    pub grown : out.items ≡ xs ++ orders
    pub same : drop at bs ≡ flat_map order_bytes orders

  module _ (s s' : Start) (at : ℕ) (xs ys : List Order) (more : ℕ → List Order → List Order → LoadOutcome)
      (later : (zs ws : List Order) → at + 9 ≤ length bs → (more (at + 9) zs ws).answer ≡ Ok s' → Read s s' (at + 9) zs (more (at + 9) zs ws)) where
    appended : (o : Order) → order_at bs at ≡ Ok (Some o) → (q : Result (Unit {0}) Refusal) →
        (append_outcome at xs ys (more (at + 9) (xs ++ o ∷ []) (drop 1 ys)) q).answer ≡ Ok s' → Read s s' at xs (append_outcome at xs ys (more (at + 9) (xs ++ o ∷ []) (drop 1 ys)) q)
    appended o e (Err f) h = differ cc
    appended o e (Ok u) h =
        let b = order_back at o e in
        let r = later (xs ++ o ∷ []) (drop 1 ys) b.0 h in
        record {
          start = r.start;
          orders = o ∷ r.orders;
          grown = r.grown ∙ append_assoc xs (o ∷ []) r.orders;
          same = split 9 at bs b.0 ∙ (λ j. sym b.1 j ++ r.same j);
        }

    met : (r : Result (Option Order) ReadFault) → order_at bs at ≡ r → (record_outcome more s at xs ys r).answer ≡ Ok s' → Read s s' at xs (record_outcome more s at xs ys r)
    met (Err f) e h = differ cc
    met (Ok None) e h =
        let end : at ≡ length bs = eqb-true _ _ (no_order at _ _ _ e) in
        record { start = let z : s ≡ s' = cc in sym z; orders = []; grown = sym (append-nil xs); same = drop_all at bs (omega arith) }
    met (Ok (Some o)) e h = appended o e _ h

  from : (s s' : Start) (n at : ℕ) (xs ys : List Order) → length bs < n + at → at ≤ length bs →
      (orders_from n s bs at xs ys).answer ≡ Ok s' → Read s s' at xs (orders_from n s bs at xs ys)
  unfolding orders_from
  from s s' zero at xs ys lt le h = absurd (omega arith)
  from s s' (suc n) at xs ys lt le h =
      met s s' at xs ys (orders_from n s bs) (λ zs ws l a. from s s' n (at + 9) zs ws (omega arith) l a) _ refl h

  -- by what the start record reads as
  begun : (s' : Start) (xs ys : List Order) (r : Result Start ReadFault) → start_at bs 0 ≡ r → (start_outcome bs xs ys r).answer ≡ Ok s' →
      (os : List Order) × ((start_outcome bs xs ys r).items ≡ xs ++ os) × (bs ≡ bytes_of_file s' os)
  begun s' xs ys (Err f) e h = differ cc
  begun s' xs ys (Ok s) e h =
      let b = start_back s e in
      let r = from s s' (length bs) 14 xs ys (omega arith) b.0 h in
      (r.orders, r.grown, split 14 0 bs b.0 ∙ (λ j. sym b.1 j ++ r.same j) ∙ ap (λ z. bytes_of_file z r.orders) (sym r.start))

pub only_written : LoadedFilesAreWritten
only_written file s xs ys small h = begun file small s xs ys _ refl h
