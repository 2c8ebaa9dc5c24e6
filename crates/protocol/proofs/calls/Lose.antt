-- A beat that is lost keeps what holds of each run.
use Rattle.std.proofs.Common.{Bool, None, Option, Some, [], arith, cond, eqb, false, length, refl, sym, true, ℕ, ◌++◌, ◌-◌, ◌∙◌, ◌∷◌, ◌≡◌, ◌≤◌}
use Rattle.std.proofs.lemmas.Bool.Decides.{nat_tests}
use Rattle.protocol.specs.declared.party.Party.{Party}
use Rattle.protocol.specs.declared.party.Beat.{Beat}
use Rattle.protocol.specs.declared.table.Root.{Root}
use Rattle.protocol.specs.declared.kind.GroupKind.{GroupKind}
use Rattle.protocol.specs.declared.happening.HappeningKind.TheVariants.{Lost}
use Rattle.protocol.specs.Party.{off_entry, off_leg, off_out, off_reply, on_leg}
use Rattle.protocol.specs.Kept.{Kept, LawfulTerms, Scene, Terms, Whole}
use Rattle.protocol.specs.Rules.{Rules}
use Rattle.protocol.specs.State.{State, happening, the}
use Rattle.protocol.specs.calls.Lose.{after_loss_of, sender}
use Rattle.protocol.specs.Told.{account_of}
use Rattle.protocol.specs.Strikes.{IsStruck}
use Rattle.protocol.proofs.Onward.{edges_same}
use Rattle.protocol.proofs.Kept.{elsewhere}
use Rattle.protocol.proofs.Whole.{fades, one_kept}
use Rattle.protocol.proofs.Logs.{LogHolds, LogNext, Moment, held_at, log_quietly, log_settles}
use Rattle.protocol.proofs.Records.{Grown, Wrote, grown_push, grown_stays}
use Rattle.protocol.proofs.Told.{TellsParty, TellsRoot, account_changes, account_idle, root_idle, set_long}
use Rattle.protocol.proofs.Sendings.{AllAccounted, beats_changes, beside_takes}
use Rattle.protocol.proofs.Strikes.{HasStruck, struck_changes}

-- a group stays whole

module _ (m : Terms) (kind : GroupKind) (law : LawfulTerms m kind) (q : Bool) (c : ℕ) (r : Root) (a l : ℕ) (s : Scene m c r a l) (p : Party)
    (k : Kept m kind q c r a l p) where
  drop_out : Kept m kind false c r a l (off_out p)
  drop_out = grind (arith, nat_tests)

  drop_reply : Kept m kind false c r a l (off_reply p)
  drop_reply = grind (arith, nat_tests)

  drop_entry : Kept m kind false c r a l (off_entry p)
  drop_entry = grind (arith, nat_tests)

  loss_kept_as : (x y z : Bool) → Kept m kind false c r a l (cond x (off_out p) (cond y (off_reply p) (cond z (off_entry p) p)))
  loss_kept_as true y z = drop_out
  loss_kept_as false true z = drop_reply
  loss_kept_as false false true = drop_entry
  loss_kept_as false false false = elsewhere m kind law q c r a l s p k

  loss_kept : (leg : ℕ) → Kept m kind false c r a l (off_leg leg p)
  loss_kept leg = loss_kept_as (eqb leg 1) (eqb leg 2) (eqb leg 3)

module _ (m : Terms) (kind : GroupKind) (law : LawfulTerms m kind) (n : ℕ) where
  pub loss_keeps_whole : (q : Bool) (o : Option Beat) (i leg : ℕ) (s : State) → Whole m kind q n s.table → Whole m kind false n (after_loss_of o i leg s).table
  loss_keeps_whole q None i leg s w = record { scene = w.scene; each = λ k h. fades m kind law n q s.table w.scene _ (w.each k h); long = w.long }
  loss_keeps_whole q (Some b) i leg s w = one_kept m kind law n q false s.table (i - 1) _ _ w (fades m kind law n q s.table w.scene) (λ k. loss_kept m kind law q _ _ _ _ w.scene _ k leg)

-- the beats and the log stay together

module _ (o : Moment) (rules : Rules) where
  pub loss_keeps_log : (x : Option Beat) (i leg : ℕ) (s : State) → on_leg leg (the i s.table) ≡ x → 1 ≤ i → i ≤ rules.plan.n → LogHolds o rules s → LogNext o rules s (after_loss_of x i leg s) []
  loss_keeps_log None i leg s e lo hi t = log_quietly o rules s s t refl
  loss_keeps_log (Some b) i leg s e lo hi t =
      let h = happening s.table.clock (sender leg i) Lost b.place in
      log_quietly o rules s (after_loss_of (Some b) i leg s)
      (log_settles o rules.plan.n _ i leg b h s.table.parties s.log lo hi t e refl refl (λ is. absurd (grind arith)) (λ _. held_at o rules s i leg b lo hi t e)) (edges_same s.log h refl)

-- what is written

module _ (rules : Rules) (S : ℕ → Type 0) where
  other_end_of : (x : Bool) (i : ℕ) → i ≤ rules.plan.n → cond x 0 i ≤ rules.plan.n
  other_end_of true i h = omega arith
  other_end_of false i h = h

  pub loss_writes : (o : Option Beat) (i leg : ℕ) (s : State) → i ≤ rules.plan.n → ((b : Beat) → o ≡ Some b → S b.place) → Grown (Wrote rules.plan.n s.table.clock S) s.log (after_loss_of o i leg s).log
  loss_writes None i leg s h of_one = grown_stays _ s.log
  loss_writes (Some b) i leg s h of_one =
      grown_push _ s.log (happening s.table.clock (sender leg i) Lost b.place) (other_end_of (eqb leg 1) i h, refl, λ is. of_one b refl)

-- the log tells the group

off_told : (leg : ℕ) (p : Party) → account_of (off_leg leg p) ≡ account_of p
off_told leg p = grind arith

module _ (rules : Rules) (i : ℕ) (lo : 1 ≤ i) (hi : i ≤ rules.plan.n) where
  pub loss_tells_party : (o : Option Beat) (j leg : ℕ) (s : State) → 1 ≤ j → rules.plan.n ≤ length s.table.parties → TellsParty rules i lo hi s → TellsParty rules i lo hi (after_loss_of o j leg s)
  loss_tells_party None j leg s low long e = e
  loss_tells_party (Some b) j leg s low long e =
      let h = happening s.table.clock (sender leg j) Lost b.place in
      let f = account_idle rules i lo hi s.log h (λ a. refl) in
      account_changes rules i lo hi j (off_leg leg (the j s.table)) s.table.parties s.log (s.log ++ h ∷ []) low long e (λ here g. f ∙ g ∙ sym (off_told leg (the j s.table))) (λ there. f)

pub loss_tells_root : (o : Option Beat) (j leg : ℕ) (s : State) → TellsRoot s → TellsRoot (after_loss_of o j leg s)
loss_tells_root None j leg s e = e
loss_tells_root (Some b) j leg s e = root_idle s.log (happening s.table.clock (sender leg j) Lost b.place) (λ r. refl) ∙ e

module _ (rules : Rules) where
  pub loss_keeps_parties : (o : Option Beat) (i leg : ℕ) (s : State) → rules.plan.n ≤ length s.table.parties → rules.plan.n ≤ length (after_loss_of o i leg s).table.parties
  loss_keeps_parties None i leg s h = h
  loss_keeps_parties (Some b) i leg s h = set_long rules.plan.n s.table.parties (i - 1) _ h

-- no beat vanishes

module _ (rules : Rules) where
  pub loss_accounts : (o : Option Beat) (j leg : ℕ) (s : State) → on_leg leg (the j s.table) ≡ o → 1 ≤ j → j ≤ rules.plan.n → rules.plan.n ≤ length s.table.parties → AllAccounted rules s → AllAccounted rules (after_loss_of o j leg s)
  loss_accounts None j leg s e lo hi long a = a
  loss_accounts (Some b) j leg s e lo hi long a =
      let h = happening s.table.clock (sender leg j) Lost b.place in
      beats_changes rules.plan.n (j - 1) (off_leg leg (the j s.table)) s.table.parties s.log (s.log ++ h ∷ [])
      (omega arith) long (λ G. beside_takes G leg (the j s.table) b s.log h e refl (λ is. absurd (grind arith)) refl) a

-- a struck party stays struck

off_struck : (leg : ℕ) (p : Party) → HasStruck p → HasStruck (off_leg leg p)
off_struck leg p e = grind arith

module _ (i : ℕ) where
  pub loss_keeps_struck : (o : Option Beat) (j leg : ℕ) (s : State) → IsStruck i s → IsStruck i (after_loss_of o j leg s)
  loss_keeps_struck None j leg s e = e
  loss_keeps_struck (Some b) j leg s e = struck_changes i j _ s.table.parties (off_struck leg _) e
