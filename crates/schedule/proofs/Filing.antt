-- Writing a file record by record.
use Rattle.std.proofs.Common.{◌≡◌, ℕ, ◌+◌, ◌*◌, ◌<◌, ◌≤◌, true, cond, List, [], ◌++◌, length, get_or, take, drop, sym, ap, ◌∙◌, subst, zero-add, arith}
use Rattle.std.specs.List.{flat_map}
use Rattle.std.proofs.lemmas.List.{take_more, length-take-le, flat_map_more}
use Rattle.std.proofs.lemmas.Bool.{le-leb}
use Rattle.text.specs.Bytes.{fits, with_text_at}
use Rattle.text.proofs.Placed.{Reached, reached, with_text_at-append}
use Rattle.orders.specs.declared.order.Order.{Order}
use Rattle.orders.specs.declared.start.Start.{Start}
use Rattle.orders.specs.Writing.{order_bytes, start_bytes, bytes_of_file}
use Rattle.schedule.specs.Composing.{with_file}
use Rattle.schedule.proofs.Lengths.{orders_long, file_long}

-- one order more
pub one_order : (b : List ℕ) (from : ℕ) (os : List Order) (i : ℕ) (d : Order) (c c' : List ℕ) (at at' : ℕ) (bytes : List ℕ) → i < length os → bytes ≡ order_bytes (get_or os i d) → from + 9 * length os ≤ length b → length c ≡ length b →
    Reached b from (flat_map order_bytes (take i os)) c at → c' ≡ cond (fits c at bytes) (with_text_at c at bytes) c → at' ≡ cond (fits c at bytes) (at + length bytes) at →
    Reached b from (flat_map order_bytes (take (i + 1) os)) c' at'
one_order b from os i d c c' at at' bytes h e room long r f g =
    let n = orders_long (take i os) in
    let m = length-take-le i os (omega arith) in
    let nine = ap length e in
    let t : fits c at bytes ≡ true = let p = r.1 in le-leb (at + length bytes) (length c) (omega arith) in
    let f' : c' ≡ with_text_at c at bytes = f ∙ ap (λ z. cond z (with_text_at c at bytes) c) t in
    let g' : at' ≡ at + length bytes = g ∙ ap (λ z. cond z (at + length bytes) at) t in
    let q = reached b from (flat_map order_bytes (take i os)) c at bytes (omega arith) r in
    let s : flat_map order_bytes (take i os) ++ bytes ≡ flat_map order_bytes (take (i + 1) os) =
    ap (λ z. flat_map order_bytes (take i os) ++ z) e ∙ flat_map_more order_bytes [] (take i os) (get_or os i d) ∙ ap (flat_map order_bytes) (sym (take_more os i d h)) in
    subst (λ z. Reached b from z c' at') s (f' ∙ q.0, g' ∙ q.1)

-- the start, and then the orders
pub whole_file : (b c c' : List ℕ) (at at' : ℕ) (s : Start) (os : List Order) (bytes : List ℕ) → bytes ≡ start_bytes s → 14 + 9 * length os ≤ length b →
    c ≡ cond (fits b 0 bytes) (with_text_at b 0 bytes) b → at ≡ cond (fits b 0 bytes) (0 + length bytes) 0 → c' ≡ with_text_at c at (flat_map order_bytes os) → at' ≡ at + length (flat_map order_bytes os) →
    (c' ≡ with_file (bytes_of_file s os) b) × (at' ≡ length (bytes_of_file s os))
whole_file b c c' at at' s os bytes e room f g h k =
    let n = ap length e in
    let t : fits b 0 bytes ≡ true = le-leb (0 + length bytes) (length b) (omega arith) in
    let f' : c ≡ with_text_at b 0 bytes = f ∙ ap (λ z. cond z (with_text_at b 0 bytes) b) t in
    let g' : at ≡ 0 + length bytes = g ∙ ap (λ z. cond z (0 + length bytes) 0) t in
    let q = with_text_at-append b 0 bytes (omega arith) (flat_map order_bytes os) in
    let j = flat_map order_bytes os in
    let file : bytes ++ j ≡ bytes_of_file s os = ap (λ z. z ++ j) e in
    let l = orders_long os in
    let m = file_long s os in
    (h ∙ ap (λ z. with_text_at z at j) f' ∙ ap (λ z. with_text_at (with_text_at b 0 bytes) z j) g' ∙ q ∙ ap (λ z. with_text_at b 0 z) file ∙ ap (λ n. bytes_of_file s os ++ drop n b) (zero-add (length (bytes_of_file s os))), omega arith)
