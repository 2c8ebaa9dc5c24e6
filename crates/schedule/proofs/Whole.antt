-- A text, from its first line to the file.
use Rattle.std.proofs.Common.{◌≡◌, ℕ, ◌+◌, ◌≤◌, Bool, true, false, cond, leb, List, [], ◌++◌, length, take, drop, Some, None, Ok, Err, Option, Result, sym, refl, ap, ◌∙◌, subst, arith}
use Rattle.std.specs.Option.{ok_or}
use Rattle.std.specs.Result.{IfOk}
use Rattle.std.proofs.lemmas.List.{take_at, length-append}
use Rattle.slots.specs.declared.SlotList.{SlotList}
use Rattle.slots.specs.Slots.{items, spare}
use Rattle.slots.proofs.Growing.{whole}
use Rattle.orders.specs.declared.order.Order.{Order}
use Rattle.orders.specs.declared.start.Start.{Start}
use Rattle.orders.specs.Loading.{load_outcome}
use Rattle.orders.specs.Writing.{bytes_of_file}
use Rattle.orders.proofs.Loads.{written_files}
use Rattle.schedule.specs.declared.complaint.Cause.TheVariants.{NoRoom}
use Rattle.schedule.specs.declared.complaint.Complaint.{Complaint}
use Rattle.schedule.specs.Cuts.{lines_in}
use Rattle.schedule.specs.Texts.{Reading, reading_end, order_lines_from, start_lines_from, reading_of}
use Rattle.schedule.specs.Steps.{past_start}
use Rattle.schedule.specs.Composing.{with_file, compose_answer, output, LoadsAs}
use Rattle.schedule.proofs.Fitting.{Sound, sound}

-- the start is asked for first, in the whole text
pub begun : (text rest : List ℕ) (n : ℕ) (slots : List Order) (r : Result Start Complaint) (n' : ℕ) (ls' : List (List ℕ)) → rest ≡ text → n ≡ 0 →
    ((xs ys : List Order) → start_lines_from n (lines_in rest) xs ys ≡ past_start r n' ls' xs ys) → reading_of text slots ≡ past_start r n' ls' [] slots
begun text rest n slots r n' ls' t z h =
    ap (λ b. start_lines_from 0 (lines_in b) [] slots) (sym t) ∙ ap (λ k. start_lines_from k (lines_in rest) [] slots) (sym z) ∙ h [] slots

-- and then the orders, into an empty list
pub went_on : (s : Start) (n : ℕ) (ls : List (List ℕ)) (xs ys slots : List Order) (r : Reading) → xs ≡ [] → ys ≡ slots → order_lines_from s n ls xs ys ≡ r → order_lines_from s n ls [] slots ≡ r
went_on s n ls xs ys slots r e f h = ap (λ zs. order_lines_from s n ls zs slots) (sym e) ∙ ap (λ zs. order_lines_from s n ls xs zs) (sym f) ∙ h

-- the slots hold the orders, and then what they held
pub slots_hold : (r : Reading) (a : Reading) (l : SlotList Order) (slots after : List Order) → r ≡ a → a.items ≡ items l → a.spare ≡ spare l → after ≡ l.slots.now → Sound slots r → after ≡ r.items ++ drop (length r.items) slots
slots_hold r a l slots after e f g h sd =
    h ∙ whole l ∙ ap (λ zs. zs ++ spare l) (sym f) ∙ ap (λ zs. a.items ++ zs) (sym g) ∙ sym (ap (λ (x : Reading). x.items ++ x.spare) e) ∙ ap (λ zs. r.items ++ zs) sd.left

-- a complaint is the answer, and the output stays
pub complained : (r : Reading) (c : Complaint) (xs ys : List Order) (out : List ℕ) → r ≡ reading_end (Err c.cause) c.line xs ys → (Err c ≡ compose_answer r (length out)) × (out ≡ output r out)
complained r c xs ys out e = (sym (ap (λ x. compose_answer x (length out)) e), sym (ap (λ x. output x out) e))

-- the answer of the whole call, and what the output then holds: a file that was written loads back
pub record Made (r : Reading) (a : Result ℕ Complaint) (out out' : List ℕ) : Type 0 where
  pub answer : a ≡ compose_answer r (length out)
  pub output : out' ≡ output r out
  pub within : IfOk a (λ size. size ≤ length out')
  pub loads : IfOk a (λ size. LoadsAs r (take size out'))

module _ (s : Start) (n : ℕ) (xs ys : List Order) (out out' : List ℕ) (size : ℕ) where
  abbrev file : List ℕ
  file = bytes_of_file s xs

  done : (slots : List Order) → Sound slots (reading_end (Ok s) n xs ys) → leb (length file) (length out) ≡ true → size ≡ length file → out' ≡ with_file file out → Made (reading_end (Ok s) n xs ys) (Ok size) out out'
  done slots h t e f =
      let l = ap length f ∙ length-append file (drop (length file) out) in
      let front : take size out' ≡ file = ap (take size) f ∙ take_at file (drop (length file) out) size (sym e) in
      record {
        answer = ap Ok e ∙ sym (ap (λ b. cond b (Ok (length file)) (Err record { line = n + 1; cause = NoRoom })) t);
        output = f ∙ sym (ap (λ b. cond b (with_file file out) out) t);
        within = omega (arith, l, e);
        loads = λ room_for enough. ap (λ b. load_outcome b [] room_for) front ∙ written_files s xs [] room_for (h.start s refl) h.rises enough;
      }

-- whether there was room for it
room_cases : (b : Bool) (k size : ℕ) → Some size ≡ cond b (Some k) None → (b ≡ true) × (size ≡ k)
room_cases true k size e = (refl, cc)
room_cases false k size e = absurd (let z : ◌≡◌ {A = ℕ} 0 1 = cc in omega arith)

no_room_cases : (b : Bool) (k : ℕ) → None ≡ cond b (Some k) None → b ≡ false
no_room_cases true k e = absurd (let z : ◌≡◌ {A = ℕ} 0 1 = cc in omega arith)
no_room_cases false k e = refl

module _ (r : Reading) (s : Start) (n : ℕ) (xs ys os : List Order) (out out' : List ℕ) (h : r ≡ reading_end (Ok s) n xs ys) (o : os ≡ xs) where
  abbrev fits_file : Bool
  fits_file = leb (length (bytes_of_file s os)) (length out)

  wrote : (size : ℕ) (slots : List Order) → Sound slots r → Some size ≡ cond fits_file (Some (length (bytes_of_file s os))) None → out' ≡ cond fits_file (with_file (bytes_of_file s os) out) out → Made r (Ok size) out out'
  wrote size slots sd a b =
      let p = room_cases fits_file (length (bytes_of_file s os)) size a in
      let b' : out' ≡ with_file (bytes_of_file s os) out = b ∙ ap (λ t. cond t (with_file (bytes_of_file s os) out) out) p.0 in
      subst (λ x. Made x (Ok size) out out') (sym h)
      (done s n xs ys out out' size slots (subst (λ x. Sound slots x) h sd) (ap (λ zs. leb (length (bytes_of_file s zs)) (length out)) (sym o) ∙ p.0) (p.1 ∙ ap (λ zs. length (bytes_of_file s zs)) o) (b' ∙ ap (λ zs. with_file (bytes_of_file s zs) out) o))

  wrote_not : (line : ℕ) → line ≡ n + 1 → None ≡ cond fits_file (Some (length (bytes_of_file s os))) None → out' ≡ cond fits_file (with_file (bytes_of_file s os) out) out →
      Made r (Err record { line = line; cause = NoRoom }) out out'
  wrote_not line l a b =
      let p = no_room_cases fits_file (length (bytes_of_file s os)) a in
      let p' : leb (length (bytes_of_file s xs)) (length out) ≡ false = ap (λ zs. leb (length (bytes_of_file s zs)) (length out)) (sym o) ∙ p in
      let file = bytes_of_file s xs in
      record {
        answer =
            ap (λ k. Err record { line = k; cause = NoRoom }) l
            ∙ sym (ap (λ t. cond t (Ok (length file)) (Err record { line = n + 1; cause = NoRoom })) p') ∙ sym (ap (λ x. compose_answer x (length out)) h);
        output =
            b ∙ ap (λ t. cond t (with_file (bytes_of_file s os) out) out) p
            ∙ sym (ap (λ t. cond t (with_file file out) out) p') ∙ sym (ap (λ x. output x out) h);
        within = tt;
        loads = tt;
      }

module _ (r : Reading) (s : Start) (n : ℕ) (xs ys os slots : List Order) (out out' : List ℕ) (h : r ≡ reading_end (Ok s) n xs ys) (o : os ≡ xs) (sd : Sound slots r) (line : ℕ) (l : line ≡ n + 1) where
  made_as : (w : Option ℕ) → w ≡ cond (fits_file r s n xs ys os out out' h o) (Some (length (bytes_of_file s os))) None → out' ≡ cond (fits_file r s n xs ys os out out' h o) (with_file (bytes_of_file s os) out) out → Made r (ok_or w record { line = line; cause = NoRoom }) out out'
  made_as (Some size) a b = wrote r s n xs ys os out out' h o size slots sd a b
  made_as None a b = wrote_not r s n xs ys os out out' h o line l a b

  pub made : (w : Option ℕ) (a : Result ℕ Complaint) → w ≡ cond (fits_file r s n xs ys os out out' h o) (Some (length (bytes_of_file s os))) None → out' ≡ cond (fits_file r s n xs ys os out out' h o) (with_file (bytes_of_file s os) out) out → a ≡ ok_or w record { line = line; cause = NoRoom } → Made r a out out'
  made w a e f g = subst (λ z. Made r z out out') (sym g) (made_as w e f)

pub reads_sound : (text : List ℕ) (slots : List Order) → Sound slots (reading_of text slots)
reads_sound text slots = sound 0 (lines_in text) slots
