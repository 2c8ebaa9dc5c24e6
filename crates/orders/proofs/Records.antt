-- The bytes of a record, and its mark.
use Rattle.std.proofs.Common.{◌≡◌, ℕ, ◌+◌, ◌<◌, ◌≤◌, Bool, true, false, cond, eqb, leb, List, [], ◌∷◌, ◌&&◌, length, get_or, take, drop, Some, None, Ok, Err, Option, Result, lit<, sym, refl, ap, ◌∙◌, add-zero, arith}
use Rattle.std.specs.List.{starts_with}
use Rattle.std.proofs.lemmas.List.{length-drop, length-take-le, get_or-take, get_or-drop}
use Rattle.std.proofs.lemmas.Bool.{ne_eqb, le-leb}
use Rattle.std.proofs.lemmas.Bool.Decides.{nat_tests}
use Rattle.std.specs.Option.{ok_or}
use Rattle.protocol.specs.declared.kind.GroupKind.{GroupKind}
use Rattle.protocol.specs.declared.kind.UnknownKind.{UnknownKind}
use Rattle.protocol.specs.Kinds.{group_kind}
use Rattle.orders.specs.declared.fault.ReadCause.{ReadCause}
use Rattle.orders.specs.declared.fault.ReadCause.TheVariants.{NotWhole, Unknown}
use Rattle.orders.specs.declared.order.OrderKind.{OrderKind}
use Rattle.orders.specs.declared.start.PaceKind.{PaceKind}
use Rattle.orders.specs.Kinds.{order_kind, pace_kind}
use Rattle.orders.specs.Reading.{is_whole, number_at, fault, order_at, start_at}

-- comparing the mark is comparing two bytes
marked : (m r : List ℕ) → length m ≡ 2 → 2 ≤ length r → starts_with eqb r m ≡ (eqb (get_or r 0 0) (get_or m 0 0) && eqb (get_or r 1 0) (get_or m 1 0))
marked [] r h g = absurd (omega arith)
marked (a ∷ []) r h g = absurd (omega arith)
marked (a ∷ b ∷ c ∷ m) r h g = absurd (omega arith)
marked (a ∷ b ∷ []) [] h g = absurd (omega arith)
marked (a ∷ b ∷ []) (x ∷ []) h g = absurd (omega arith)
marked (a ∷ b ∷ []) (x ∷ y ∷ r) h g = grind (arith, nat_tests)

module _ (m bs : List ℕ) (n at : ℕ) (two : length m ≡ 2) (some : 2 ≤ n) (within : at ≤ length bs) where
  pub too_short : length bs < n + at → is_whole m n bs at ≡ false
  too_short h = grind (arith, nat_tests)

  pub as_marked : n + at ≤ length bs → (r : List ℕ) → r ≡ take n (drop at bs) → is_whole m n bs at ≡ starts_with eqb r m
  as_marked h r e =
      let front : length r ≡ n = ap length e ∙ length-take-le n (drop at bs) (simp length-drop (omega arith)) in
      let t : leb (at + n) (length bs) ≡ true = le-leb (at + n) (length bs) (omega arith) in
      let a : get_or r 0 0 ≡ get_or bs at 0 =
      ap (λ z. get_or z 0 0) e ∙ get_or-take n (drop at bs) 0 0 (omega arith) ∙ get_or-drop at bs 0 0 ∙ ap (λ i. get_or bs i 0) (add-zero at) in
      let b : get_or r 1 0 ≡ get_or bs (at + 1) 0 =
      ap (λ z. get_or z 1 0) e ∙ get_or-take n (drop at bs) 1 0 (omega arith) ∙ get_or-drop at bs 1 0 in
      rw (marked m r two (omega arith), a, b, t)

-- what a record that was read is, and that it is whole
pub taken : (b : Bool) (x r : List ℕ) → ◌≡◌ {A = Result (List ℕ) ReadCause} (Ok r) (cond b (Ok x) (Err NotWhole)) → (b ≡ true) × (r ≡ x)
taken true x r e = (refl, cc)
taken false x r e = absurd (let z : ◌≡◌ {A = ℕ} 0 1 = cc in omega arith)

known : {X : Type 0} (o : Option X) (k : X) (u : UnknownKind) → Ok k ≡ ok_or o u → o ≡ Some k
known None k u e = absurd (let z : ◌≡◌ {A = ℕ} 0 1 = cc in omega arith)
known (Some x) k u e = let z : x ≡ k = cc in ap Some z

unknown : {X : Type 0} (o : Option X) (u v : UnknownKind) → Err u ≡ ok_or o v → o ≡ None
unknown None u v e = refl
unknown (Some x) u v e = absurd (let z : ◌≡◌ {A = ℕ} 0 1 = cc in omega arith)

-- a byte of the file is a byte of its record
seen : (bs r : List ℕ) (at n i j : ℕ) → r ≡ take n (drop at bs) → i < n → j ≡ at + i → get_or bs j 0 ≡ get_or r i 0
seen bs r at n i j e h f =
    ap (λ k. get_or bs k 0) f ∙ sym (get_or-drop at bs i 0) ∙ sym (get_or-take n (drop at bs) i 0 h) ∙ ap (λ z. get_or z i 0) (sym e)

number_seen : (bs r : List ℕ) (at n i j : ℕ) → r ≡ take n (drop at bs) → i + 3 < n → j ≡ at + i → number_at bs j ≡ number_at r i
number_seen bs r at n i j e h f =
    let a = seen bs r at n i j e (omega arith) f in
    let b = seen bs r at n (i + 1) (j + 1) e (omega arith) (omega arith) in
    let c = seen bs r at n (i + 2) (j + 2) e (omega arith) (omega arith) in
    let d = seen bs r at n (i + 3) (j + 3) e h (omega arith) in
    rw (a, b, c, d)

module _ (bs r : List ℕ) (at : ℕ) where
  pub order_read : (k : OrderKind) (t : ℕ) (u : UnknownKind) → (at ≡ length bs → ⊥) →
      ◌≡◌ {A = Result (List ℕ) ReadCause} (Ok r) (cond (is_whole (0x48 ∷ 0x4F ∷ []) 9 bs at) (Ok (take 9 (drop at bs))) (Err NotWhole)) → Ok k ≡ ok_or (order_kind (get_or r 2 0)) u → t ≡ number_at r 5 →
      Ok (Some record { kind = k; party = get_or r 3 0; leg = get_or r 4 0; tick = t }) ≡ order_at bs at
  order_read k t u more e f g =
      let h = taken _ _ _ e in
      let w = h.0 in
      let on : eqb at (length bs) ≡ false = ne_eqb at (length bs) more in
      let s2 = seen bs r at 9 2 (at + 2) h.1 (lit< tt) refl in
      let s3 = seen bs r at 9 3 (at + 3) h.1 (lit< tt) refl in
      let s4 = seen bs r at 9 4 (at + 4) h.1 (lit< tt) refl in
      let s5 = number_seen bs r at 9 5 (at + 5) h.1 (lit< tt) refl in
      let q = known (order_kind (get_or r 2 0)) k u f in
      simp (on, w, s2, s3, s4, s5, q, g)

  module _ (k : GroupKind) (u v : UnknownKind)
      (e : ◌≡◌ {A = Result (List ℕ) ReadCause} (Ok r) (cond (is_whole (0x48 ∷ 0x47 ∷ []) 14 bs at) (Ok (take 14 (drop at bs))) (Err NotWhole))) (f : Ok k ≡ ok_or (group_kind (get_or r 2 0)) u) where
    pub start_read : (p : PaceKind) (tmin tmax : ℕ) → Ok p ≡ ok_or (pace_kind (get_or r 12 0)) v → tmin ≡ number_at r 4 → tmax ≡ number_at r 8 →
        Ok record { kind = k; parties = get_or r 3 0; tmin = tmin; tmax = tmax; pace = p; cap = get_or r 13 0 } ≡ start_at bs at
    start_read p tmin tmax g a b =
        let h = taken _ _ _ e in
        let w = h.0 in
        let s2 = seen bs r at 14 2 (at + 2) h.1 (lit< tt) refl in
        let s3 = seen bs r at 14 3 (at + 3) h.1 (lit< tt) refl in
        let s4 = number_seen bs r at 14 4 (at + 4) h.1 (lit< tt) refl in
        let s8 = number_seen bs r at 14 8 (at + 8) h.1 (lit< tt) refl in
        let s12 = seen bs r at 14 12 (at + 12) h.1 (lit< tt) refl in
        let s13 = seen bs r at 14 13 (at + 13) h.1 (lit< tt) refl in
        let q = known (group_kind (get_or r 2 0)) k u f in
        let t = known (pace_kind (get_or r 12 0)) p v g in
        simp (w, s2, s3, s4, s8, s12, s13, q, t, a, b)

    pub pace_unknown : (x : UnknownKind) → Err x ≡ ok_or (pace_kind (get_or r 12 0)) v → Err (fault at Unknown) ≡ start_at bs at
    pace_unknown x g =
        let h = taken _ _ _ e in
        let w = h.0 in
        let s2 = seen bs r at 14 2 (at + 2) h.1 (lit< tt) refl in
        let s12 = seen bs r at 14 12 (at + 12) h.1 (lit< tt) refl in
        let q = known (group_kind (get_or r 2 0)) k u f in
        let t = unknown (pace_kind (get_or r 12 0)) x v g in
        simp (w, s2, s12, q, t)
