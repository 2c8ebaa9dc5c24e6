use Rattle.std.proofs.Common.{◌≡◌, ℕ, List, [], ◌∷◌, length, Ok, Err, Result, sym, refl, ap, ◌∙◌, subst, arith, rules}
use Rattle.std.specs.Result.{MatchResult, IsErrAnd}
use Rattle.std.proofs.lemmas.Result.{err_from_is_err_and}
use Rattle.slots.specs.declared.SlotList.{SlotList}
use Rattle.slots.specs.declared.refusal.Refusal.{Refusal}
use Rattle.slots.specs.Slots.{items, spare, Appends}
use Rattle.slots.proofs.Growing.{extends_refl, extends_trans}
use Rattle.orders.specs.declared.fault.ReadFault.{ReadFault}
use Rattle.orders.specs.declared.fault.ReadCause.TheVariants.{Append}
use Rattle.orders.specs.declared.order.Order.{Order}
use Rattle.orders.specs.declared.start.Start.{Start}
use Rattle.orders.specs.Loading.{load_outcome, start_outcome}
use Rattle.orders.specs.Reading.{fault, start_at, place_after_order}
use Rattle.orders.proofs.Loads.{Left, left_end, left_fault, left_refused, left_more, written_files}
use Rattle.orders.proofs.Example.{examples_load}
use Rattle.orders.proofs.OnlyWritten.{only_written}
use Rattle.orders.proofs.load.load.Goals as goal

-- what the reader read first
start_was : (bs bs' : List ℕ) (at : ℕ) (r : Result Start ReadFault) → bs' ≡ bs → at ≡ 0 → r ≡ start_at bs' at → start_at bs 0 ≡ r
start_was bs bs' at r b a e = sym (e ∙ ap (λ z. start_at z at) b ∙ ap (λ z. start_at bs z) a)

-- what the list answered, behind what `map_err` made of it
refused : (r : Result (Unit {0}) Refusal) (q : Result (Unit {0}) ReadFault) (f : ReadFault) (P : Refusal → ReadFault → Type 0) → MatchResult r (λ x. q ≡ Ok x) (λ e. IsErrAnd q (P e)) → q ≡ Err f → (e : Refusal) × (r ≡ Err e) × P e f
refused (Ok x) q f P h e = absurd (let z : ◌≡◌ {A = ℕ} 0 1 = cc in omega arith)
refused (Err x) (Ok u) f P h e = absurd (let z : ◌≡◌ {A = ℕ} 0 1 = cc in omega arith)
refused (Err x) (Err g) f P h e = let z : g ≡ f = cc in (x, refl, subst (λ y. P x y) z h)

allowed : (r : Result (Unit {0}) Refusal) (q : Result (Unit {0}) ReadFault) (P : Refusal → ReadFault → Type 0) → MatchResult r (λ x. q ≡ Ok x) (λ e. IsErrAnd q (P e)) → q ≡ Ok tt → r ≡ Ok tt
allowed (Ok x) q P h e = refl
allowed (Err x) (Ok u) P h e = absurd h
allowed (Err x) (Err g) P h e = absurd (let z : ◌≡◌ {A = ℕ} 0 1 = cc in omega arith)

pub returns-in_err-start : goal.returns-in_err-start
returns-in_err-start c =
    let h = c.in_err-start.ensures in
    let p = err_from_is_err_and c.from_residual.result c.from_residual.ensures.1 in
    let n = c.new-reader.ensures in
    let l = c.args.list.now in
    let e = ap (λ z. start_outcome c.args.bytes.now (items l) (spare l) z) (start_was _ _ _ _ n.bytes n.place h.answer) in
    record {
      answer = p.1 ∙ ap Err p.2 ∙ sym (ap (λ z. z.answer) e);
      items = sym (ap (λ z. z.items) e);
      spare = sym (ap (λ z. z.spare) e);
      extends = extends_refl c.args.list.now;
      rises = λ h. h;
      reads_back = written_files;
      only_written = only_written;
      examples = examples_load;
    }

pub loop-order-init : goal.loop-order-init
loop-order-init c =
    let h = c.in_ok-start.ensures in
    let n = c.new-reader.ensures in
    let l = c.args.list.now in
    let bs = c.args.bytes.now in
    let out = load_outcome bs (items l) (spare l) in
    let e = ap (λ z. start_outcome bs (items l) (spare l) z) (start_was _ _ _ _ n.bytes n.place h.answer) in
    let at : 14 ≡ c.start.new.self.at = omega arith in
    let P : ℕ → Type 0 = λ i. Left c.in_ok-start.start bs i (items l) (spare l) out in
    let Q : List ℕ → Type 0 = λ zs. Left c.in_ok-start.start zs c.start.new.self.at (items l) (spare l) out in (
      subst Q (sym (ap (λ x. x.now) h.bytes ∙ n.bytes)) (subst P at (record { turns = length bs; enough = omega arith; same = e })),
      extends_refl l,
      λ r. r,
    )

pub returns-in_err-order : goal.returns-in_err-order
returns-in_err-order c =
    let l = c.loop-order in
    let p = err_from_is_err_and c.from_residual-in_err-order.result c.from_residual-in_err-order.ensures.1 in
    let e =
    left_fault _ l.reader.bytes.now l.reader.at (items l.list) (spare l.list) _ l.reader.within _ l.invariant.0
    c.in_err-order.ensures.answer in
    record {
      answer = p.1 ∙ ap Err p.2 ∙ sym (ap (λ z. z.answer) e);
      items = sym (ap (λ z. z.items) e);
      spare = sym (ap (λ z. z.spare) e);
      extends = l.invariant.1;
      rises = l.invariant.2;
      reads_back = written_files;
      only_written = only_written;
      examples = examples_load;
    }

pub returns-in_default : goal.returns-in_default
returns-in_default c =
    let l = c.loop-order in
    let e =
    left_end _ l.reader.bytes.now l.reader.at (items l.list) (spare l.list) _ l.reader.within l.invariant.0
    (ap Ok (sym c.in_default.is) ∙ c.in_ok-order.ensures.answer) in
    record {
      answer = sym (ap (λ z. z.answer) e);
      items = sym (ap (λ z. z.items) e);
      spare = sym (ap (λ z. z.spare) e);
      extends = l.invariant.1;
      rises = l.invariant.2;
      reads_back = written_files;
      only_written = only_written;
      examples = examples_load;
    }

pub returns-in_err-map_err : goal.returns-in_err-map_err
returns-in_err-map_err c =
    let l = c.loop-order in
    let h = c.append.ensures in
    let m = refused _ _ _ _ c.map_err.ensures.cases c.in_err-map_err.was in
    let told : c.in_err-map_err.field-0.0 ≡ fault c.place-byte.result (Append m.0) = search rules in
    let same : c.append.new.self ≡ l.list = subst (λ z. MatchResult z (λ x. Appends l.list c.append.new.self (c.in-Some.order ∷ [])) (λ x. c.append.new.self ≡ l.list)) m.1 h.after in
    let p = err_from_is_err_and c.from_residual-in_err-map_err.result c.from_residual-in_err-map_err.ensures.1 in
    let e =
    left_refused _ l.reader.bytes.now l.reader.at (items l.list) (spare l.list) _ l.reader.within
    c.in-Some.order m.0 l.invariant.0
    (ap Ok (sym c.in-Some.is) ∙ c.in_ok-order.ensures.answer) (sym m.1 ∙ h.answer) in
    record {
      answer = p.1 ∙ ap Err (p.2 ∙ told ∙ ap (λ n. fault n (Append m.0)) c.place-byte.ensures) ∙ sym (ap (λ z. z.answer) e);
      items = ap (λ (x : SlotList Order). items x) same ∙ sym (ap (λ z. z.items) e);
      spare = ap (λ (x : SlotList Order). spare x) same ∙ sym (ap (λ z. z.spare) e);
      extends = extends_trans c.args.list.now l.list c.append.new.self l.invariant.1 h.extends;
      rises = λ r. h.rises (l.invariant.2 r);
      reads_back = written_files;
      only_written = only_written;
      examples = examples_load;
    }

pub loop-order-preserved : goal.loop-order-preserved
loop-order-preserved c =
    let l = c.loop-order in
    let n = c.in_ok-order.ensures in
    let h = c.append.ensures in
    let m = c.append.new.self in
    let k = allowed _ _ _ c.map_err.ensures.cases c.in_ok-map_err.was in
    let after : Appends l.list m (c.in-Some.order ∷ []) =
    subst (λ z. MatchResult z (λ x. Appends l.list m (c.in-Some.order ∷ [])) (λ x. m ≡ l.list)) k h.after in (
      left_more _ l.reader.bytes.now l.reader.at (items l.list) (spare l.list) _ l.reader.within
          c.in-Some.order c.order.new.self.bytes.now c.order.new.self.at (items m) (spare m) l.invariant.0
          (ap Ok (sym c.in-Some.is) ∙ n.answer) (sym k ∙ h.answer)
          (ap (λ x. x.now) n.bytes) (n.place ∙ ap (λ r. place_after_order (Ok r) l.reader.at) c.in-Some.is) after.records after.spares,
      extends_trans c.args.list.now l.list m l.invariant.1 h.extends,
      λ r. h.rises (l.invariant.2 r),
    )
