-- Reading one record more.
use Rattle.std.proofs.Common.{◌≡◌, ℕ, zero, suc, ◌+◌, ◌<◌, ◌≤◌, List, [], ◌∷◌, ◌++◌, length, drop, Some, None, Ok, Err, Option, Result, sym, refl, ap, ◌∙◌, one-add, arith}
use Rattle.std.proofs.lemmas.List.{append_assoc, append-nil, drop-drop, length-append, length-drop}
use Rattle.std.proofs.lemmas.Bool.{eq-eqb}
use Rattle.std.specs.List.{flat_map}
use Rattle.slots.specs.declared.refusal.Refusal.{Refusal}
use Rattle.slots.specs.Slots.{append_answer, last_time}
use Rattle.slots.proofs.Answering.{says_ok}
use Rattle.slots.proofs.Times.{last_of_appended}
use Rattle.orders.specs.declared.fault.ReadCause.TheVariants.{Append}
use Rattle.orders.specs.declared.fault.ReadFault.{ReadFault}
use Rattle.orders.specs.declared.order.Order.{Order}
use Rattle.orders.specs.declared.start.Start.{Start}
use Rattle.orders.specs.Reading.{fault, order_at}
use Rattle.orders.specs.Writing.{order_bytes, start_bytes, bytes_of_file}
use Rattle.orders.specs.Loading.{LoadOutcome, tick_of, end_outcome, append_outcome, record_outcome, orders_from, start_outcome, InOrder, WrittenFilesLoad}
use Rattle.orders.proofs.Rereading.{order_again, start_again}

-- reading on from a place comes to `out`, with turns enough
pub record Left (s : Start) (bs : List ℕ) (at : ℕ) (xs ys : List Order) (out : LoadOutcome) : Type 0 where
  pub turns : ℕ
  pub enough : length bs < turns + at
  pub same : out ≡ orders_from turns s bs at xs ys

module _ (s : Start) (bs : List ℕ) (at : ℕ) (xs ys : List Order) (out : LoadOutcome) (h : at ≤ length bs) where
  -- there is a turn for the record at the place
  opened : (n : ℕ) → length bs < n + at → out ≡ orders_from n s bs at xs ys → (m : ℕ) × (n ≡ suc m) × (out ≡ record_outcome (orders_from m s bs) s at xs ys (order_at bs at))
  unfolding orders_from
  opened zero lt e = absurd (omega arith)
  opened (suc m) lt e = (m, refl, e)

  -- what was read at the place decides
  met : (r : Result (Option Order) ReadFault) → r ≡ order_at bs at → Left s bs at xs ys out → (m : ℕ) × (length bs < suc m + at) × (out ≡ record_outcome (orders_from m s bs) s at xs ys r)
  met r e l =
      let o = opened l.turns l.enough l.same in
      (o.0, omega (arith, l.enough, o.1), o.2 ∙ ap (λ t. record_outcome (orders_from o.0 s bs) s at xs ys t) (sym e))

  pub left_end : Left s bs at xs ys out → Ok None ≡ order_at bs at → out ≡ end_outcome xs ys (Ok s)
  left_end l e = (met (Ok None) e l).2

  pub left_fault : (f : ReadFault) → Left s bs at xs ys out → Err f ≡ order_at bs at → out ≡ end_outcome xs ys (Err f)
  left_fault f l e = (met (Err f) e l).2

  pub left_refused : (o : Order) (f : Refusal) → Left s bs at xs ys out → Ok (Some o) ≡ order_at bs at → Err f ≡ append_answer tick_of xs ys o → out ≡ end_outcome xs ys (Err (fault at (Append f)))
  left_refused o f l e r =
      let m = met (Ok (Some o)) e l in
      m.2 ∙ ap (λ t. append_outcome at xs ys (orders_from m.0 s bs (at + 9) (xs ++ o ∷ []) (drop 1 ys)) t) (sym r)

  pub left_more : (o : Order) (bs' : List ℕ) (at' : ℕ) (xs' ys' : List Order) → Left s bs at xs ys out → Ok (Some o) ≡ order_at bs at → Ok tt ≡ append_answer tick_of xs ys o → bs' ≡ bs → at' ≡ at + 9 → xs' ≡ xs ++ o ∷ [] → ys' ≡ drop 1 ys → Left s bs' at' xs' ys' out
  left_more o bs' at' xs' ys' l e r b a x y =
      let m = met (Ok (Some o)) e l in
      record {
        turns = m.0;
        enough = omega (arith, m.1, ap length b);
        same =
            m.2 ∙ ap (λ t. append_outcome at xs ys (orders_from m.0 s bs (at + 9) (xs ++ o ∷ []) (drop 1 ys)) t) (sym r) ∙ rw (b, a, x, y);
      }

-- the orders of a written file, read from behind p
orders_again : (os : List Order) (n : ℕ) (s : Start) (bs p : List ℕ) (at : ℕ) (xs ys : List Order) → bs ≡ p ++ flat_map order_bytes os → at ≡ length p → length bs < n + at → InOrder (last_time tick_of xs) os → length os ≤ length ys → orders_from n s bs at xs ys ≡ end_outcome (xs ++ os) (drop (length os) ys) (Ok s)
unfolding orders_from
orders_again [] zero s bs p at xs ys b a lt t room = absurd (let e = ap length (b ∙ append-nil p) in omega arith)
orders_again (o ∷ os) zero s bs p at xs ys b a lt t room =
    absurd (let e = ap length b ∙ length-append p (flat_map order_bytes (o ∷ os)) in omega arith)
orders_again [] (suc n) s bs p at xs ys b a lt t room =
    let e = eq-eqb at (length bs) (a ∙ sym (ap length (b ∙ append-nil p))) in
    rw (e, append-nil)
orders_again (o ∷ os) (suc n) s bs p at xs ys b a lt t room =
    let r = order_bytes o in
    let q = flat_map order_bytes os in
    let b' : bs ≡ p ++ r ++ q = b ∙ sym (append_assoc p r q) in
    let e : order_at bs at ≡ Ok (Some o) = rw (b', a) (order_again p q o t.0.tick) in
    let k = says_ok tick_of xs ys o (omega arith) t.1 in
    let next = orders_from n s bs (at + 9) (xs ++ o ∷ []) (drop 1 ys) in
    ap (λ z. record_outcome (orders_from n s bs) s at xs ys z) e
    ∙ ap (λ z. append_outcome at xs ys next z) (sym k)
    ∙ orders_again os n s bs (p ++ r) (at + 9) (xs ++ o ∷ []) (drop 1 ys) b'
    (ap (λ m. m + 9) a ∙ sym (length-append p r)) (omega arith) (rw last_of_appended t.2) (simp length-drop (omega arith))
    ∙ rw (append_assoc, drop-drop, one-add)

pub written_files : WrittenFilesLoad
written_files s os xs ys f t room =
    let r = start_bytes s in
    let q = flat_map order_bytes os in
    ap (λ z. start_outcome (bytes_of_file s os) xs ys z) (start_again [] q s f.tmin f.tmax)
    ∙ orders_again os (length (bytes_of_file s os)) s (bytes_of_file s os) r 14 xs ys refl refl (omega arith) t room
