-- What was written reads back as itself.
use Rattle.std.proofs.Common.{◌≡◌, ℕ, ◌+◌, ◌*◌, ◌/◌, ◌%◌, ◌^◌, ◌<◌, true, false, eqb, leb, List, ◌++◌, length, get_or, Some, Ok, sym, refl, ap, ◌∙◌, mod-eq_of_lt, arith}
use native.Mathlib.Nat.{div-add-mod, div-div-eq-div-mul}
use Rattle.std.proofs.lemmas.List.{append_assoc, length-append, get_or-append-add}
use Rattle.std.proofs.lemmas.Bool.{ne_eqb, le-leb}
use Rattle.protocol.specs.declared.kind.GroupKind.{GroupKind}
use Rattle.protocol.specs.declared.kind.GroupKind.TheVariants.{Closed, Expanding, Dynamic}
use Rattle.protocol.specs.Kinds.{group_kind, group_number}
use Rattle.orders.specs.declared.order.Order.{Order}
use Rattle.orders.specs.declared.order.OrderKind.{OrderKind}
use Rattle.orders.specs.declared.order.OrderKind.TheVariants.{Deliver, Lose, Crash, Join, Leave, Wait}
use Rattle.orders.specs.declared.start.PaceKind.{PaceKind}
use Rattle.orders.specs.declared.start.PaceKind.TheVariants.{Halving, TwoPhase}
use Rattle.orders.specs.declared.start.Start.{Start}
use Rattle.orders.specs.Kinds.{order_kind, order_number, pace_kind, pace_number}
use Rattle.orders.specs.Reading.{order_at, start_at}
use Rattle.orders.specs.Writing.{order_bytes, start_bytes}

group_again : (k : GroupKind) → group_kind (group_number k) ≡ Some k
group_again Closed = refl
group_again Expanding = refl
group_again Dynamic = refl

pace_again : (k : PaceKind) → pace_kind (pace_number k) ≡ Some k
pace_again Halving = refl
pace_again TwoPhase = refl

kind_again : (k : OrderKind) → order_kind (order_number k) ≡ Some k
kind_again Deliver = refl
kind_again Lose = refl
kind_again Crash = refl
kind_again Join = refl
kind_again Leave = refl
kind_again Wait = refl

-- one byte more of a number
next_byte : (n m : ℕ) → 256 * (n / (m * 256)) + n / m % 256 ≡ n / m
next_byte n m = ap (λ d. 256 * d + n / m % 256) (sym (div-div-eq-div-mul n m 256)) ∙ div-add-mod (n / m) 256

four_bytes : (n a b c d x y z : ℕ) → d ≡ c → 256 * c + z ≡ b → 256 * b + y ≡ a → 256 * a + x ≡ n → d * 16777216 + z * 65536 + y * 256 + x ≡ n
four_bytes n a b c d x y z top e f g = omega arith

number_again : (n : ℕ) → n < 2 ^ 32 → n / 16777216 % 256 * 16777216 + n / 65536 % 256 * 65536 + n / 256 % 256 * 256 + n % 256 ≡ n
number_again n h =
    four_bytes n (n / 256) (n / 65536) (n / 16777216) (n / 16777216 % 256) (n % 256) (n / 256 % 256) (n / 65536 % 256)
    (mod-eq_of_lt (omega arith)) (next_byte n 65536) (next_byte n 256) (div-add-mod n 256)

-- the byte at place k of what stands behind p
behind : (p r q : List ℕ) (k i : ℕ) → i ≡ length p + k → get_or (p ++ r ++ q) i 0 ≡ get_or (r ++ q) k 0
behind p r q k i e = rw (e, append_assoc) (get_or-append-add p (r ++ q) k 0)

pub order_again : (p q : List ℕ) (o : Order) → o.tick < 2 ^ 32 → order_at (p ++ order_bytes o ++ q) (length p) ≡ Ok (Some o)
order_again p q o f =
    let r = order_bytes o in
    let at = length p in
    let len : length (p ++ r ++ q) ≡ length p + 9 + length q = simp length-append (omega arith) in
    let n : eqb at (length (p ++ r ++ q)) ≡ false = ne_eqb at (length (p ++ r ++ q)) (λ z. omega arith) in
    let l : leb (at + 9) (length (p ++ r ++ q)) ≡ true = le-leb (at + 9) (length (p ++ r ++ q)) (omega arith) in
    let b0 = behind p r q 0 at (omega arith) in
    let b1 = behind p r q 1 (at + 1) refl in
    let b2 = behind p r q 2 (at + 2) refl in
    let b3 = behind p r q 3 (at + 3) refl in
    let b4 = behind p r q 4 (at + 4) refl in
    let b5 = behind p r q 5 (at + 5) refl in
    let b6 = behind p r q 6 (at + 5 + 1) (omega arith) in
    let b7 = behind p r q 7 (at + 5 + 2) (omega arith) in
    let b8 = behind p r q 8 (at + 5 + 3) (omega arith) in
    let k = kind_again o.kind in
    let t = number_again o.tick f in
    simp (n, l, b0, b1, b2, b3, b4, b5, b6, b7, b8, k, t)

pub start_again : (p q : List ℕ) (s : Start) → s.tmin < 2 ^ 32 → s.tmax < 2 ^ 32 → start_at (p ++ start_bytes s ++ q) (length p) ≡ Ok s
start_again p q s f g =
    let r = start_bytes s in
    let at = length p in
    let len : length (p ++ r ++ q) ≡ length p + 14 + length q = simp length-append (omega arith) in
    let l : leb (at + 14) (length (p ++ r ++ q)) ≡ true = le-leb (at + 14) (length (p ++ r ++ q)) (omega arith) in
    let b0 = behind p r q 0 at (omega arith) in
    let b1 = behind p r q 1 (at + 1) refl in
    let b2 = behind p r q 2 (at + 2) refl in
    let b3 = behind p r q 3 (at + 3) refl in
    let b4 = behind p r q 4 (at + 4) refl in
    let b5 = behind p r q 5 (at + 4 + 1) (omega arith) in
    let b6 = behind p r q 6 (at + 4 + 2) (omega arith) in
    let b7 = behind p r q 7 (at + 4 + 3) (omega arith) in
    let b8 = behind p r q 8 (at + 8) refl in
    let b9 = behind p r q 9 (at + 8 + 1) (omega arith) in
    let b10 = behind p r q 10 (at + 8 + 2) (omega arith) in
    let b11 = behind p r q 11 (at + 8 + 3) (omega arith) in
    let b12 = behind p r q 12 (at + 12) refl in
    let b13 = behind p r q 13 (at + 13) refl in
    let k = group_again s.kind in
    let c = pace_again s.pace in
    let t = number_again s.tmin f in
    let u = number_again s.tmax g in
    simp (l, b0, b1, b2, b3, b4, b5, b6, b7, b8, b9, b10, b11, b12, b13, k, c, t, u)
