-- What a call makes of the legs of one party.
use Rattle.std.proofs.Common.{◌≡◌, ℕ, ◌≤◌, Bool, true, false, cond, eqb, ◌⊎◌, List, Some, None, unwrap_or, sym, refl, ap, subst, inl, inr, arith}
use Rattle.std.proofs.lemmas.Bool.Decides.{nat_tests}
use Rattle.protocol.specs.declared.party.Party.{Party}
use Rattle.protocol.specs.declared.party.Beat.{Beat}
use Rattle.protocol.specs.declared.happening.Happening.{Happening}
use Rattle.protocol.specs.Party.{party, legs_of, on_leg, off_leg, off_out, off_reply, off_entry}
use Rattle.protocol.specs.calls.Lose.{sender}
use Rattle.protocol.specs.Beats.{SentBy}

-- a beat that was sent on leg w of party i, no earlier than place lo of the log
pub record New (w i lo : ℕ) (log : List Happening) (leg : ℕ) (b : Beat) : Type 0 where
  pub on : leg ≡ w
  pub fresh : lo ≤ b.place
  pub sent : SentBy log (sender leg i) b.place

-- each beat on a leg stood there before, or is new on leg w
abbrev pub Turned : ℕ → ℕ → ℕ → List Happening → Party → Party → Type 0
Turned w i lo log p p' = (leg : ℕ) (b : Beat) → on_leg leg p' ≡ Some b → (on_leg leg p ≡ Some b) ⊎ New w i lo log leg b

-- what stood on the other legs when the beat on leg x was taken off
off_as : (a b c x y z : Bool) (p : Party) (d : Beat) →
    let q = cond a (off_out p) (cond b (off_reply p) (cond c (off_entry p) p)) in
    cond x q.legs.out (cond y q.legs.reply (cond z q.legs.entry None)) ≡ Some d → cond x p.legs.out (cond y p.legs.reply (cond z p.legs.entry None)) ≡ Some d
off_as a b c x y z p d e = grind arith

gone_as : (x y z : Bool) (p : Party) (d : Beat) →
    let q = cond x (off_out p) (cond y (off_reply p) (cond z (off_entry p) p)) in
    cond x q.legs.out (cond y q.legs.reply (cond z q.legs.entry None)) ≡ Some d → ⊥
gone_as x y z p d e = grind arith

pub off_others : (taken leg : ℕ) (p : Party) (b : Beat) → on_leg leg (off_leg taken p) ≡ Some b → on_leg leg p ≡ Some b
off_others taken leg p b e = off_as (eqb taken 1) (eqb taken 2) (eqb taken 3) (eqb leg 1) (eqb leg 2) (eqb leg 3) p b e

pub off_gone : (taken leg : ℕ) (p : Party) (b : Beat) → on_leg leg (off_leg taken p) ≡ Some b → leg ≡ taken → ⊥
off_gone taken leg p b e same =
    gone_as (eqb leg 1) (eqb leg 2) (eqb leg 3) p b (subst (λ x. on_leg leg (off_leg x p) ≡ Some b) (sym same) e)

module _ (i lo : ℕ) (log : List Happening) where
  pub stays : (w : ℕ) (p : Party) → Turned w i lo log p p
  stays w p leg b e = inl e

  new : (w leg : ℕ) (d b : Beat) → leg ≡ w → Some d ≡ Some b → lo ≤ d.place → SentBy log (sender w i) d.place → New w i lo log leg b
  new w leg d b on f low s =
      let e : d ≡ b = ap (λ y. unwrap_or y d) f in
      record {
        on = on;
        fresh = subst (λ (x : Beat). lo ≤ x.place) e low;
        sent = subst (λ (x : Beat). SentBy log (sender leg i) x.place) e (subst (λ x. SentBy log (sender x i) d.place) (sym on) s);
      }

  pub put_out : (p : Party) (d : Beat) → lo ≤ d.place → SentBy log 0 d.place → Turned 1 i lo log p (party p.note p.own (legs_of (Some d) p.legs.reply p.legs.entry))
  put_out p d low s leg b e = go (eqb leg 1) refl e
    where
      go : (x : Bool) → eqb leg 1 ≡ x → cond x (Some d) (cond (eqb leg 2) p.legs.reply (cond (eqb leg 3) p.legs.entry None)) ≡ Some b →
          (cond x p.legs.out (cond (eqb leg 2) p.legs.reply (cond (eqb leg 3) p.legs.entry None)) ≡ Some b) ⊎ New 1 i lo log leg b
      go false is f = inl f
      go true is f = inr (new 1 leg d b (grind (arith, nat_tests)) f low s)

  pub put_reply : (p : Party) (d : Beat) → lo ≤ d.place → SentBy log i d.place → Turned 2 i lo log p (party p.note p.own (legs_of p.legs.out (Some d) p.legs.entry))
  put_reply p d low s leg b e = go (eqb leg 1) (eqb leg 2) refl e
    where
      go : (x y : Bool) → eqb leg 2 ≡ y → cond x p.legs.out (cond y (Some d) (cond (eqb leg 3) p.legs.entry None)) ≡ Some b →
          (cond x p.legs.out (cond y p.legs.reply (cond (eqb leg 3) p.legs.entry None)) ≡ Some b) ⊎ New 2 i lo log leg b
      go true y is f = inl f
      go false false is f = inl f
      go false true is f = inr (new 2 leg d b (grind (arith, nat_tests)) f low s)

  pub put_entry : (p : Party) (d : Beat) → lo ≤ d.place → SentBy log i d.place → Turned 3 i lo log p (party p.note p.own (legs_of p.legs.out p.legs.reply (Some d)))
  put_entry p d low s leg b e = go (eqb leg 1) (eqb leg 2) (eqb leg 3) refl e
    where
      go : (x y z : Bool) → eqb leg 3 ≡ z → cond x p.legs.out (cond y p.legs.reply (cond z (Some d) None)) ≡ Some b →
          (cond x p.legs.out (cond y p.legs.reply (cond z p.legs.entry None)) ≡ Some b) ⊎ New 3 i lo log leg b
      go true y z is f = inl f
      go false true z is f = inl f
      go false false false is f = inl f
      go false false true is f = inr (new 3 leg d b (grind (arith, nat_tests)) f low s)
