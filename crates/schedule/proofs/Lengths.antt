-- How long the parts of a notice and of a file are.
use Rattle.std.proofs.Common.{◌≡◌, ℕ, ◌+◌, ◌*◌, ◌^◌, ◌<◌, ◌≤◌, List, [], ◌∷◌, ◌++◌, length, take, Some, None, Option, codes, decimal, refl, arith, lit≤}
use Rattle.std.specs.List.{flat_map}
use Rattle.std.proofs.lemmas.Fmt.{length-decimal-le}
use Rattle.std.proofs.lemmas.List.{length-append, length-take}
use Rattle.orders.specs.declared.order.Order.{Order}
use Rattle.orders.specs.declared.start.Start.{Start}
use Rattle.orders.specs.Writing.{order_bytes, start_bytes, bytes_of_file}
use Rattle.schedule.specs.declared.complaint.Cause.{Cause}
use Rattle.schedule.specs.declared.complaint.Cause.TheVariants.{MissingWord, UnknownWord, NotANumber, NumberTooLarge, WordTooMany, EarlierTick, NoSlot, NoStart, NoRoom}
use Rattle.schedule.specs.declared.place.Place.{Place}
use Rattle.schedule.specs.declared.place.Place.TheVariants.{GroupKind, Parties, Pace, Tmin, Tmax, CapWord, Cap, Tick, OrderKind, Party, Leg, End}
use Rattle.schedule.specs.Notices.{cause_words}
use Rattle.schedule.specs.MisfitNotices.{place_words, met_words}

pub number_long : (n : ℕ) → n < 2 ^ 64 → length (decimal n) ≤ 20
number_long n h = length-decimal-le 20 n (omega arith) (omega arith) h

pub words_long : (e : Cause) → length (cause_words e) ≤ 64
words_long MissingWord = lit≤ tt
words_long UnknownWord = lit≤ tt
words_long NotANumber = lit≤ tt
words_long NumberTooLarge = lit≤ tt
words_long WordTooMany = lit≤ tt
words_long EarlierTick = lit≤ tt
words_long NoSlot = lit≤ tt
words_long NoStart = lit≤ tt
words_long NoRoom = lit≤ tt

pub orders_long : (os : List Order) → length (flat_map order_bytes os) ≡ 9 * length os
orders_long [] = refl
orders_long (o ∷ os) = let e = orders_long os in let l = length-append (order_bytes o) (flat_map order_bytes os) in omega arith

pub file_long : (s : Start) (os : List Order) → length (bytes_of_file s os) ≡ 14 + 9 * length os
file_long s os = let e = orders_long os in let l = length-append (start_bytes s) (flat_map order_bytes os) in omega arith

pub place_long : (p : Place) → length (place_words p) ≤ 48
place_long GroupKind = lit≤ tt
place_long Parties = lit≤ tt
place_long Pace = lit≤ tt
place_long Tmin = lit≤ tt
place_long Tmax = lit≤ tt
place_long CapWord = lit≤ tt
place_long Cap = lit≤ tt
place_long Tick = lit≤ tt
place_long OrderKind = lit≤ tt
place_long Party = lit≤ tt
place_long Leg = lit≤ tt
place_long End = lit≤ tt

pub met_long : (w : Option (List ℕ)) → length (met_words w) ≤ 60
met_long None = lit≤ tt
met_long (Some w) =
    let e = length-take 40 w in
    let a = length-append (codes "met '") (take 40 w ++ codes "' where ") in
    let b = length-append (take 40 w) (codes "' where ") in
    omega arith
