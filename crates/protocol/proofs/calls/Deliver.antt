-- A beat that arrives keeps what holds of each run.
use Rattle.std.proofs.Common.{Bool, List, None, Option, Some, ap, arith, cond, eqb, false, length, refl, subst, suc, sym, true, unwrap_or, ℕ, ◌+◌, ◌-◌, ◌∙◌, ◌≡◌, ◌≤◌}
use Rattle.std.proofs.lemmas.Bool.Decides.{nat_tests}
use Rattle.std.proofs.lemmas.List.{append-nil, length_push}
use Rattle.protocol.specs.declared.party.Party.{Party}
use Rattle.protocol.specs.declared.party.Beat.{Beat}
use Rattle.protocol.specs.declared.party.Standing.{Standing}
use Rattle.protocol.specs.declared.party.Standing.TheVariants.{Ended, Live, Outside}
use Rattle.protocol.specs.declared.table.Root.{Root}
use Rattle.protocol.specs.declared.table.Root.TheVariants.{Down, Running}
use Rattle.protocol.specs.declared.table.RootEnding.{RootEnding}
use Rattle.protocol.specs.declared.kind.GroupKind.{GroupKind}
use Rattle.protocol.specs.declared.happening.Happening.{Happening}
use Rattle.protocol.specs.declared.party.Roll.{Roll}
use Rattle.protocol.specs.declared.party.Stage.TheVariants.{In, Joining as Joins, Leaving as Leaves}
use Rattle.protocol.specs.declared.party.Roll.TheVariants.{Off, On, Struck as StruckOff}
use Rattle.protocol.specs.declared.happening.HappeningKind.TheVariants.{Arrived, Enrolled, Sent, Struck as WasStruck}
use Rattle.protocol.specs.calls.Deliver.{after_arrival, answer_log, answers, arrival_log, arrives, hears_as, heeds}
use Rattle.protocol.specs.Party.{beat, live, off_entry, off_leg, off_out, off_reply, on_leg}
use Rattle.protocol.specs.Kept.{Kept, LawfulTerms, Scene, Terms, Whole}
use Rattle.protocol.specs.Rules.{Rules}
use Rattle.protocol.specs.State.{State, happening, runs, the, with_linked, with_record}
use Rattle.protocol.specs.Beats.{OtherEnd, SentBy, edges}
use Rattle.protocol.specs.Deliveries.{receiver}
use Rattle.protocol.specs.Told.{account_of, root_in, tells_as, account_in}
use Rattle.protocol.specs.Strikes.{IsStruck}
use Rattle.protocol.proofs.Onward.{Onward, arrived, sent_push, stay, told}
use Rattle.protocol.proofs.Legs.{Turned, put_reply, stays}
use Rattle.protocol.proofs.Sendings.{AllAccounted, Beside, Keeps, beats_changes, beside_puts, beside_stays, beside_takes, beside_tells, keeps_reply}
use Rattle.protocol.proofs.Kept.{gone}
use Rattle.protocol.proofs.Whole.{one_kept}
use Rattle.protocol.proofs.Logs.{LogHolds, LogNext, Moment, beat_edge, cond_onward, held_at, log_settles, turns_two}
use Rattle.protocol.proofs.Records.{Grown, Wrote, grown_by_one, grown_cond, grown_further, grown_push, grown_stays}
use Rattle.protocol.proofs.Told.{TellsParty, TellsRoot, account_changes, account_cond, account_idle, account_mine, account_other, root_conds, root_idle, set_long}
use Rattle.protocol.proofs.Strikes.{HasStruck, struck_changes}

-- a group stays whole

module _ (m : Terms) (kind : GroupKind) (law : LawfulTerms m kind) (q : Bool) (c : ℕ) (r : Root) (a l : ℕ) (s : Scene m c r a l) (p : Party)
    (k : Kept m kind q c r a l p) where
  hear_kept : (place : ℕ) (b : Beat) → p.legs.out ≡ Some b → Kept m kind q c r a l (hears_as p.own.standing c place b.last (off_out p))
  hear_kept place b e = let f = law.part (suc p.note.misses) in grind (arith, nat_tests)

  answer_kept : (b : Beat) → p.legs.reply ≡ Some b → r ≡ Running → Kept m kind q c r a l (answers b.parting (off_reply p))
  answer_kept b e up = let f = law.part (suc p.note.misses) in grind (arith, nat_tests)

  enter_kept : (b : Beat) → p.legs.entry ≡ Some b → r ≡ Running → Kept m kind q c r a l (answers b.parting (off_entry p))
  enter_kept b e up = let f = law.part (suc p.note.misses) in grind (arith, nat_tests)

  ignore_reply : (how : RootEnding) (e : ℕ) → r ≡ Down how e → Kept m kind q c r a l (off_reply p)
  ignore_reply how e down = grind (arith, nat_tests)

  ignore_entry : (how : RootEnding) (e : ℕ) → r ≡ Down how e → Kept m kind q c r a l (off_entry p)
  ignore_entry how e down = grind (arith, nat_tests)

  arrive_kept_as :
      (x y z : Bool) (r' : Root) (b : Beat) (place : ℕ) → r ≡ r' →
      cond x p.legs.out (cond y p.legs.reply (cond z p.legs.entry None)) ≡ Some b →
      Kept m kind q c r a l (cond x (hears_as p.own.standing c place b.last (off_out p)) (cond y (heeds r' b.parting (off_reply p)) (cond z (heeds r' b.parting (off_entry p)) p)))
  arrive_kept_as true y z r' b place e f = hear_kept place b f
  arrive_kept_as false true z Running b place e f = answer_kept b f e
  arrive_kept_as false true z (Down how at) b place e f = ignore_reply how at e
  arrive_kept_as false false true Running b place e f = enter_kept b f e
  arrive_kept_as false false true (Down how at) b place e f = ignore_entry how at e
  arrive_kept_as false false false r' b place e f = absurd (grind arith)

  arrive_kept : (leg : ℕ) (b : Beat) (place : ℕ) → on_leg leg p ≡ Some b → Kept m kind q c r a l (arrives c r leg b place p)
  arrive_kept leg b place e = arrive_kept_as (eqb leg 1) (eqb leg 2) (eqb leg 3) r b place refl e

  pub free_reply : (b : Beat) → p.legs.out ≡ Some b → p.legs.reply ≡ None
  free_reply b e = gone _ (grind (arith, nat_tests))

module _ (m : Terms) (kind : GroupKind) (law : LawfulTerms m kind) (n : ℕ) where
  pub delivery_keeps_whole : (q : Bool) (o : Option Beat) (i leg : ℕ) (s : State) → on_leg leg (the i s.table) ≡ o → Whole m kind q n s.table → Whole m kind q n (after_arrival o i leg s).table
  delivery_keeps_whole q None i leg s e w = w
  delivery_keeps_whole q (Some b) i leg s e w = one_kept m kind law n q q s.table (i - 1) _ _ w (λ x k. k) (λ k. arrive_kept m kind law q _ _ _ _ w.scene _ k leg b _ e)

-- the beats and the log stay together

module _ (c : ℕ) where
  -- what follows an arrival

  answer_onward : (roll : Roll) (b : Bool) (i : ℕ) (log : List Happening) → Onward c log (answer_log roll b c i log)
  answer_onward StruckOff b i log = stay c log
  answer_onward On true i log = told c log _ refl refl
  answer_onward Off true i log = told c log _ refl refl
  answer_onward On false i log = stay c log
  answer_onward Off false i log = told c log _ refl refl

  follows_onward : (x : Bool) (r : Root) (i place : ℕ) (b : Beat) (p : Party) (log : List Happening) →
      Onward c (with_linked c (cond x i 0) Arrived place log)
      (cond x
      (cond (live p.own.standing) (with_record c i Sent (with_linked c i Arrived place log)) (with_linked c i Arrived place log))
      (cond (runs r) (answer_log p.note.roll b.parting c i (with_linked c 0 Arrived place log)) (with_linked c 0 Arrived place log)))
  follows_onward true r i place b p log = cond_onward c (live p.own.standing) _ _ (told c _ _ refl refl)
  follows_onward false r i place b p log = cond_onward c (runs r) _ _ (answer_onward p.note.roll b.parting i _)

  hears_turn : (st : Standing) (i place l : ℕ) (p : Party) (log : List Happening) →
      Turned 2 i (length (with_linked c i Arrived place log)) (cond (live st) (with_record c i Sent (with_linked c i Arrived place log)) (with_linked c i Arrived place log))
      p (hears_as st c (length log + 1) l p)
  hears_turn Outside i place l p log = stays i _ _ 2 p
  hears_turn (Live g) i place l p log =
      let e = length_push log (happening c i Arrived place) in
      put_reply i _ _ p _ (omega (arith, e)) (subst (SentBy (with_record c i Sent (with_linked c i Arrived place log)) i) e (sent_push (with_linked c i Arrived place log) c i _))
  hears_turn (Ended how at g) i place l p log = stays i _ _ 2 p

  heeds_turn : (r : Root) (parting : Bool) (i lo : ℕ) (log : List Happening) (p : Party) → Turned 2 i lo log p (heeds r parting p)
  heeds_turn Running parting i lo log p = stays i lo log 2 p
  heeds_turn (Down how at) parting i lo log p = stays i lo log 2 p

  follows_turn : (x y z : Bool) (r : Root) (b : Beat) (i : ℕ) (p : Party) (log : List Happening) →
      let off = cond x (off_out p) (cond y (off_reply p) (cond z (off_entry p) p)) in
      Turned 2 i (length (with_linked c (cond x i 0) Arrived b.place log))
      (cond x
      (cond (live p.own.standing) (with_record c i Sent (with_linked c i Arrived b.place log)) (with_linked c i Arrived b.place log))
      (cond (runs r) (answer_log p.note.roll b.parting c i (with_linked c 0 Arrived b.place log)) (with_linked c 0 Arrived b.place log)))
      off (cond x (hears_as p.own.standing c (length log + 1) b.last (off_out p)) (cond y (heeds r b.parting (off_reply p)) (cond z (heeds r b.parting (off_entry p)) p)))
  follows_turn true y z r b i p log = hears_turn p.own.standing i b.place b.last (off_out p) log
  follows_turn false true z r b i p log = heeds_turn r b.parting i _ _ (off_reply p)
  follows_turn false false true r b i p log = heeds_turn r b.parting i _ _ (off_entry p)
  follows_turn false false false r b i p log = stays i _ _ 2 p

module _ (o : Moment) (rules : Rules) where
  ends_of : (x : Bool) (i : ℕ) → 1 ≤ i → i ≤ rules.plan.n → OtherEnd rules.plan.n (cond x 0 i) (cond x i 0)
  ends_of true i lo hi = record { at_root = λ e. absurd (omega arith); at_party = λ e. (hi, refl) }
  ends_of false i lo hi = record { at_root = λ e. (lo, hi); at_party = λ e. absurd (omega arith) }

  pub delivery_keeps_log : (x : Option Beat) (i leg : ℕ) (s : State) → on_leg leg (the i s.table) ≡ x → 1 ≤ i → i ≤ rules.plan.n → LogHolds o rules s → LogNext o rules s (after_arrival x i leg s) (beat_edge x (length s.log))
  delivery_keeps_log None i leg s e lo hi t = (t, sym (append-nil (edges 0 s.log)))
  delivery_keeps_log (Some b) i leg s e lo hi t =
      let c = s.table.clock in
      let r = s.table.root in
      let p = the i s.table in
      let x = eqb leg 1 in
      let h = happening c (cond x i 0) Arrived b.place in
      let w = follows_onward c x r i b.place b p s.log in
      let arrival = log_settles o rules.plan.n c i leg b h s.table.parties s.log lo hi t e refl refl
      (λ _. (cond x 0 i, held_at o rules s i leg b lo hi t e, ends_of x i lo hi)) (λ is. absurd (grind arith)) in (
        turns_two o rules.plan.n c 2 i (off_leg leg p) (arrives c r leg b (length s.log + 1) p) s.table.parties (with_linked c (cond x i 0) Arrived b.place s.log) _ lo hi w arrival
            (follows_turn c x (eqb leg 2) (eqb leg 3) r b i p s.log),
        w.same ∙ arrived s.log c (cond x i 0) b.place,
      )

-- what is written

module _ (rules : Rules) (S : ℕ → Type 0) where
  answer_grows : (roll : Roll) (b : Bool) (c i : ℕ) (log : List Happening) → i ≤ rules.plan.n → Grown (Wrote rules.plan.n c S) log (answer_log roll b c i log)
  answer_grows StruckOff b c i log h = grown_stays _ log
  answer_grows On true c i log h = grown_by_one rules S c log i _ _ h refl
  answer_grows Off true c i log h = grown_by_one rules S c log i _ _ h refl
  answer_grows On false c i log h = grown_stays _ log
  answer_grows Off false c i log h = grown_by_one rules S c log i _ _ h refl

  -- what follows the record of the arrival
  pub follows_grow : (c : ℕ) (r : Root) (leg : ℕ) (b : Beat) (i : ℕ) (p : Party) (log : List Happening) → i ≤ rules.plan.n →
      Grown (Wrote rules.plan.n c S) (with_linked c (receiver leg i) Arrived b.place log) (arrival_log c r leg b i p log)
  follows_grow c r leg b i p log h = go (eqb leg 1)
    where
      go : (x : Bool) →
          Grown (Wrote rules.plan.n c S) (with_linked c (cond x i 0) Arrived b.place log)
          (cond x
          (cond (live p.own.standing) (with_record c i Sent (with_linked c i Arrived b.place log)) (with_linked c i Arrived b.place log))
          (cond (runs r) (answer_log p.note.roll b.parting c i (with_linked c 0 Arrived b.place log)) (with_linked c 0 Arrived b.place log)))
      go true = grown_cond _ (live p.own.standing) _ _ _ (grown_by_one rules S c _ i _ _ h refl) (grown_stays _ _)
      go false = grown_cond _ (runs r) _ _ _ (answer_grows p.note.roll b.parting c i _ h) (grown_stays _ _)

  end_of : (x : Bool) (i : ℕ) → i ≤ rules.plan.n → cond x i 0 ≤ rules.plan.n
  end_of true i h = h
  end_of false i h = omega arith

  pub delivery_writes : (o : Option Beat) (i leg : ℕ) (s : State) → i ≤ rules.plan.n → ((b : Beat) → o ≡ Some b → S b.place) → Grown (Wrote rules.plan.n s.table.clock S) s.log (after_arrival o i leg s).log
  delivery_writes None i leg s h of_one = grown_stays _ s.log
  delivery_writes (Some b) i leg s h of_one =
      let t = s.table in
      grown_further _ _ _ _ (grown_push _ s.log (happening t.clock (receiver leg i) Arrived b.place) (end_of (eqb leg 1) i h, refl, λ is. of_one b refl))
      (follows_grow t.clock t.root leg b i (the i t) s.log h)

-- the log tells the group

hears_told : (st : Standing) (c place l : ℕ) (p : Party) → p.own.standing ≡ st → account_of (hears_as st c place l p) ≡ tells_as Arrived c (account_of p)
hears_told Outside c place l p e = grind arith
hears_told (Live Joins) c place l p e = grind arith
hears_told (Live In) c place l p e = grind arith
hears_told (Live Leaves) c place l p e = grind arith
hears_told (Ended how at g) c place l p e = grind arith

module _ (rules : Rules) (i : ℕ) (lo : 1 ≤ i) (hi : i ≤ rules.plan.n) where
  answer_told_there : (roll : Roll) (b : Bool) (c j : ℕ) (log : List Happening) → (j ≡ i → ⊥) → account_in rules.plan.kind i (answer_log roll b c j log) ≡ account_in rules.plan.kind i log
  answer_told_there StruckOff b c j log h = refl
  answer_told_there On true c j log h = account_other rules i lo hi log _ h
  answer_told_there Off true c j log h = account_other rules i lo hi log _ h
  answer_told_there On false c j log h = refl
  answer_told_there Off false c j log h = account_other rules i lo hi log _ h

  answer_told_here : (roll : Roll) (b : Bool) (c j : ℕ) (log : List Happening) (p : Party) → j ≡ i → p.note.roll ≡ roll → account_in rules.plan.kind i log ≡ account_of p →
      account_in rules.plan.kind i (answer_log roll b c j log) ≡ account_of (answers b p)
  answer_told_here StruckOff b c j log p h is e = grind arith
  answer_told_here On true c j log p h is e = let f = account_mine rules i lo hi log (happening c j WasStruck (length log)) h in grind arith
  answer_told_here Off true c j log p h is e = let f = account_mine rules i lo hi log (happening c j WasStruck (length log)) h in grind arith
  answer_told_here On false c j log p h is e = grind arith
  answer_told_here Off false c j log p h is e = let f = account_mine rules i lo hi log (happening c j Enrolled (length log)) h in grind arith

  heed_told_here : (r : Root) (b : Bool) (c j : ℕ) (log : List Happening) (p : Party) → j ≡ i → account_in rules.plan.kind i log ≡ account_of p →
      account_in rules.plan.kind i (cond (runs r) (answer_log p.note.roll b c j log) log) ≡ account_of (heeds r b p)
  heed_told_here Running b c j log p h e = answer_told_here p.note.roll b c j log p h refl e
  heed_told_here (Down how at) b c j log p h e = e

  arrival_there : (x : Bool) (r : Root) (b : Beat) (c j : ℕ) (p : Party) (log : List Happening) → (j ≡ i → ⊥) →
      account_in rules.plan.kind i (cond x
      (cond (live p.own.standing) (with_record c j Sent (with_linked c j Arrived b.place log)) (with_linked c j Arrived b.place log))
      (cond (runs r) (answer_log p.note.roll b.parting c j (with_linked c 0 Arrived b.place log)) (with_linked c 0 Arrived b.place log)))
      ≡ account_in rules.plan.kind i log
  arrival_there true r b c j p log h =
      let e = account_other rules i lo hi log (happening c j Arrived b.place) h in
      account_cond rules i lo hi (live p.own.standing) _ _ _ (account_idle rules i lo hi (with_linked c j Arrived b.place log) _ (λ a. refl) ∙ e) e
  arrival_there false r b c j p log h =
      let e = account_other rules i lo hi log (happening c 0 Arrived b.place) (λ z. absurd (omega arith)) in
      account_cond rules i lo hi (runs r) _ _ _ (answer_told_there p.note.roll b.parting c j _ h ∙ e) e

  -- of a beat on leg 1 (x), 2 (y) or 3 (z)
  arrival_here : (x y z : Bool) (r : Root) (b : Beat) (c place j : ℕ) (p : Party) (log : List Happening) → j ≡ i →
      cond x p.legs.out (cond y p.legs.reply (cond z p.legs.entry None)) ≡ Some b → account_in rules.plan.kind i log ≡ account_of p →
      account_in rules.plan.kind i (cond x
      (cond (live p.own.standing) (with_record c j Sent (with_linked c j Arrived b.place log)) (with_linked c j Arrived b.place log))
      (cond (runs r) (answer_log p.note.roll b.parting c j (with_linked c 0 Arrived b.place log)) (with_linked c 0 Arrived b.place log)))
      ≡ account_of (cond x (hears_as p.own.standing c place b.last (off_out p))
      (cond y (heeds r b.parting (off_reply p)) (cond z (heeds r b.parting (off_entry p)) p)))
  arrival_here true y z r b c place j p log h held e =
      let f : account_in rules.plan.kind i (with_linked c j Arrived b.place log) ≡ account_of (hears_as p.own.standing c place b.last (off_out p)) =
      account_mine rules i lo hi log (happening c j Arrived b.place) h ∙ ap (tells_as Arrived c) e ∙ sym (hears_told p.own.standing c place b.last (off_out p) refl) in
      account_cond rules i lo hi (live p.own.standing) _ _ _ (account_idle rules i lo hi (with_linked c j Arrived b.place log) _ (λ a. refl) ∙ f) f
  arrival_here false true z r b c place j p log h held e =
      heed_told_here r b.parting c j (with_linked c 0 Arrived b.place log) (off_reply p) h (account_other rules i lo hi log (happening c 0 Arrived b.place) (λ z. absurd (omega arith)) ∙ e)
  arrival_here false false true r b c place j p log h held e =
      heed_told_here r b.parting c j (with_linked c 0 Arrived b.place log) (off_entry p) h (account_other rules i lo hi log (happening c 0 Arrived b.place) (λ z. absurd (omega arith)) ∙ e)
  arrival_here false false false r b c place j p log h held e = absurd (grind arith)

  pub delivery_tells_party : (o : Option Beat) (j leg : ℕ) (s : State) → on_leg leg (the j s.table) ≡ o → 1 ≤ j → rules.plan.n ≤ length s.table.parties → TellsParty rules i lo hi s → TellsParty rules i lo hi (after_arrival o j leg s)
  delivery_tells_party None j leg s held low long e = e
  delivery_tells_party (Some b) j leg s held low long e =
      let t = s.table in
      account_changes rules i lo hi j (arrives t.clock t.root leg b (length s.log + 1) (the j t)) t.parties s.log
      (arrival_log t.clock t.root leg b j (the j t) s.log) low long e
      (λ here f. arrival_here (eqb leg 1) (eqb leg 2) (eqb leg 3) t.root b t.clock _ j (the j t) s.log here held f)
      (λ there. arrival_there (eqb leg 1) t.root b t.clock j (the j t) s.log there)

root_answer : (roll : Roll) (b : Bool) (c j : ℕ) (log : List Happening) → root_in (answer_log roll b c j log) ≡ root_in log
root_answer StruckOff b c j log = refl
root_answer On true c j log = root_idle log (happening c j WasStruck (length log)) (λ r. refl)
root_answer Off true c j log = root_idle log (happening c j WasStruck (length log)) (λ r. refl)
root_answer On false c j log = refl
root_answer Off false c j log = root_idle log (happening c j Enrolled (length log)) (λ r. refl)

root_arrival : (x : Bool) (r : Root) (b : Beat) (c j : ℕ) (p : Party) (log : List Happening) →
    root_in (cond x
    (cond (live p.own.standing) (with_record c j Sent (with_linked c j Arrived b.place log)) (with_linked c j Arrived b.place log))
    (cond (runs r) (answer_log p.note.roll b.parting c j (with_linked c 0 Arrived b.place log)) (with_linked c 0 Arrived b.place log)))
    ≡ root_in log
root_arrival true r b c j p log =
    let e = root_idle log (happening c j Arrived b.place) (λ r. refl) in
    root_conds (live p.own.standing) _ _ _ (root_idle (with_linked c j Arrived b.place log) (happening c j Sent (length (with_linked c j Arrived b.place log))) (λ r. refl) ∙ e) e
root_arrival false r b c j p log =
    let e = root_idle log (happening c 0 Arrived b.place) (λ r. refl) in
    root_conds (runs r) _ _ _ (root_answer p.note.roll b.parting c j _ ∙ e) e

pub delivery_tells_root : (o : Option Beat) (j leg : ℕ) (s : State) → TellsRoot s → TellsRoot (after_arrival o j leg s)
delivery_tells_root None j leg s e = e
delivery_tells_root (Some b) j leg s e = let t = s.table in root_arrival (eqb leg 1) t.root b t.clock j (the j t) s.log ∙ e

module _ (rules : Rules) where
  pub delivery_keeps_parties : (o : Option Beat) (i leg : ℕ) (s : State) → rules.plan.n ≤ length s.table.parties → rules.plan.n ≤ length (after_arrival o i leg s).table.parties
  delivery_keeps_parties None i leg s h = h
  delivery_keeps_parties (Some b) i leg s h = set_long rules.plan.n s.table.parties (i - 1) _ h

-- no beat vanishes

module _ (G : ℕ → Type 0) where
  answer_log_tells : (roll : Roll) (b : Bool) (c j : ℕ) (log : List Happening) (p : Party) → Beside G log p → Beside G (answer_log roll b c j log) p
  answer_log_tells StruckOff b c j log p a = a
  answer_log_tells On true c j log p a = beside_tells G p log (happening c j WasStruck (length log)) (λ is. absurd (grind arith)) a
  answer_log_tells Off true c j log p a = beside_tells G p log (happening c j WasStruck (length log)) (λ is. absurd (grind arith)) a
  answer_log_tells On false c j log p a = a
  answer_log_tells Off false c j log p a = beside_tells G p log (happening c j Enrolled (length log)) (λ is. absurd (grind arith)) a

  heeds_keeps : (r : Root) (b : Bool) (p : Party) → Keeps p (heeds r b p)
  heeds_keeps Running b p leg d e = e
  heeds_keeps (Down how at) b p leg d e = e

  heed_beside : (r : Root) (roll : Roll) (b : Bool) (c j : ℕ) (log : List Happening) (p : Party) → Beside G log p →
      Beside G (cond (runs r) (answer_log roll b c j log) log) (heeds r b p)
  heed_beside Running roll b c j log p a = beside_stays G p (heeds Running b p) _ (heeds_keeps Running b p) (answer_log_tells roll b c j log p a)
  heed_beside (Down how at) roll b c j log p a = a

  hear_beside : (st : Standing) (c l j place : ℕ) (log : List Happening) (p : Party) → p.legs.reply ≡ None → place ≡ length log → Beside G log p →
      Beside G (cond (live st) (with_record c j Sent log) log) (hears_as st c place l p)
  hear_beside Outside c l j place log p free at a = a
  hear_beside (Live g) c l j place log p free at a =
      let p' = hears_as (Live g) c place l p in
      let d = unwrap_or p'.legs.reply (beat 0 false 0) in
      beside_puts G p p' 2 d log (happening c j Sent (length log)) (keeps_reply p d free) refl at a
  hear_beside (Ended how e g) c l j place log p free at a = a

  -- of a beat on leg 1 (x), 2 (y) or 3 (z)
  follow_beside : (x y z : Bool) (r : Root) (b : Beat) (c j : ℕ) (p : Party) (log : List Happening) → (x ≡ true → p.legs.reply ≡ None) →
      cond x p.legs.out (cond y p.legs.reply (cond z p.legs.entry None)) ≡ Some b →
      Beside G (with_linked c (cond x j 0) Arrived b.place log) (cond x (off_out p) (cond y (off_reply p) (cond z (off_entry p) p))) →
      Beside G (cond x
      (cond (live p.own.standing) (with_record c j Sent (with_linked c j Arrived b.place log)) (with_linked c j Arrived b.place log))
      (cond (runs r) (answer_log p.note.roll b.parting c j (with_linked c 0 Arrived b.place log)) (with_linked c 0 Arrived b.place log)))
      (cond x (hears_as p.own.standing c (length log + 1) b.last (off_out p))
      (cond y (heeds r b.parting (off_reply p)) (cond z (heeds r b.parting (off_entry p)) p)))
  follow_beside true y z r b c j p log free held a =
      hear_beside p.own.standing c b.last j (length log + 1) (with_linked c j Arrived b.place log) (off_out p) (free refl) (sym (length_push log (happening c j Arrived b.place))) a
  follow_beside false true z r b c j p log free held a = heed_beside r p.note.roll b.parting c j (with_linked c 0 Arrived b.place log) (off_reply p) a
  follow_beside false false true r b c j p log free held a = heed_beside r p.note.roll b.parting c j (with_linked c 0 Arrived b.place log) (off_entry p) a
  follow_beside false false false r b c j p log free held a = absurd (grind arith)

  arrive_beside : (leg : ℕ) (r : Root) (b : Beat) (c j : ℕ) (p : Party) (log : List Happening) → on_leg leg p ≡ Some b → (leg ≡ 1 → p.legs.reply ≡ None) →
      Beside G log p → Beside G (arrival_log c r leg b j p log) (arrives c r leg b (length log + 1) p)
  arrive_beside leg r b c j p log held free a =
      follow_beside (eqb leg 1) (eqb leg 2) (eqb leg 3) r b c j p log (λ is. free (grind (arith, nat_tests))) held
      (beside_takes G leg p b log (happening c (cond (eqb leg 1) j 0) Arrived b.place) held refl (λ is. absurd (grind arith)) refl a)

module _ (rules : Rules) where
  pub delivery_accounts : (o : Option Beat) (j leg : ℕ) (s : State) → on_leg leg (the j s.table) ≡ o → 1 ≤ j → j ≤ rules.plan.n → (leg ≡ 1 → (the j s.table).legs.reply ≡ None) →
      rules.plan.n ≤ length s.table.parties → AllAccounted rules s → AllAccounted rules (after_arrival o j leg s)
  delivery_accounts None j leg s e lo hi free long a = a
  delivery_accounts (Some b) j leg s e lo hi free long a =
      let t = s.table in
      beats_changes rules.plan.n (j - 1) (arrives t.clock t.root leg b (length s.log + 1) (the j t)) t.parties s.log (arrival_log t.clock t.root leg b j (the j t) s.log)
      (omega arith) long (λ G. arrive_beside G leg t.root b t.clock j (the j t) s.log e free) a

-- a struck party stays struck

arrives_struck : (c : ℕ) (r : Root) (leg : ℕ) (b : Beat) (place : ℕ) (p : Party) → HasStruck p → HasStruck (arrives c r leg b place p)
arrives_struck c r leg b place p e = grind arith

module _ (i : ℕ) where
  pub delivery_keeps_struck : (o : Option Beat) (j leg : ℕ) (s : State) → IsStruck i s → IsStruck i (after_arrival o j leg s)
  delivery_keeps_struck None j leg s e = e
  delivery_keeps_struck (Some b) j leg s e = struck_changes i j _ s.table.parties (arrives_struck s.table.clock s.table.root leg b _ _) e
