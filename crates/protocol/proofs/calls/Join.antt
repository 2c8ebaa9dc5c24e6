-- A party that joins keeps what holds of each run.
use Rattle.std.proofs.Common.{Bool, None, [], ap, arith, false, length, refl, subst, sym, ℕ, ◌%◌, ◌++◌, ◌+◌, ◌-◌, ◌∙◌, ◌∷◌, ◌≡◌, ◌≤◌}
use native.Mathlib.Nat.{zero-mod}
use Rattle.std.proofs.lemmas.Bool.Decides.{nat_tests}
use Rattle.std.proofs.lemmas.List.{length_push}
use Rattle.protocol.specs.declared.party.Party.{Party}
use Rattle.protocol.specs.declared.party.Standing.TheVariants.{Outside}
use Rattle.protocol.specs.declared.table.Root.{Root}
use Rattle.protocol.specs.declared.kind.GroupKind.{GroupKind}
use Rattle.protocol.specs.declared.kind.GroupKind.TheVariants.{Closed}
use Rattle.protocol.specs.declared.happening.HappeningKind.TheVariants.{Joining as IsJoining, Sent}
use Rattle.protocol.specs.calls.Join.{after_join, joined}
use Rattle.protocol.specs.Kept.{Kept, LawfulTerms, Scene, Terms, Whole}
use Rattle.protocol.specs.Rules.{Rules, trip}
use Rattle.protocol.specs.State.{State, happening, the, with_record}
use Rattle.protocol.specs.Beats.{SentBy}
use Rattle.protocol.specs.Told.{tells_as}
use Rattle.protocol.specs.Party.{beat}
use Rattle.protocol.specs.Strikes.{IsStruck}
use Rattle.protocol.proofs.Onward.{further, sent_push, told}
use Rattle.protocol.proofs.Legs.{put_entry}
use Rattle.protocol.proofs.Kept.{gone}
use Rattle.protocol.proofs.Whole.{one_kept}
use Rattle.protocol.proofs.Logs.{LogHolds, LogNext, Moment, log_onward, turns_one}
use Rattle.protocol.proofs.Records.{Grown, Wrote, grown_by_one, grown_further}
use Rattle.protocol.proofs.Told.{TellsParty, TellsRoot, account_changes, account_idle, account_mine, account_other, root_idle}
use Rattle.protocol.proofs.Sendings.{AllAccounted, beats_changes, beside_puts, beside_tells, keeps_entry}
use Rattle.protocol.proofs.Strikes.{struck_changes}

-- a group stays whole

first_step : (x n : ℕ) → (x - x) % n ≡ 0
first_step x n = ap (λ y. y % n) (omega arith) ∙ zero-mod n

module _ (m : Terms) (kind : GroupKind) (law : LawfulTerms m kind) (q : Bool) (c : ℕ) (r : Root) (a l : ℕ) (s : Scene m c r a l) (p : Party)
    (k : Kept m kind q c r a l p) where
  join_kept : (place : ℕ) → (kind ≡ Closed → ⊥) → p.own.standing ≡ Outside → Kept m kind q c r a l (joined c (c + m.trip) place p)
  join_kept place wide e = let f = first_step (c + m.trip) m.tmin in grind (arith, nat_tests)

  pub free_entry_outside : p.own.standing ≡ Outside → p.legs.entry ≡ None
  free_entry_outside e = gone _ (grind (arith, nat_tests))

module _ (m : Terms) (kind : GroupKind) (law : LawfulTerms m kind) (n : ℕ) where
  pub join_keeps_whole : (q : Bool) (i : ℕ) (s : State) → (kind ≡ Closed → ⊥) → (the i s.table).own.standing ≡ Outside → Whole m kind q n s.table → Whole m kind q n (after_join m.trip i s).table
  join_keeps_whole q i s wide e w = one_kept m kind law n q q s.table (i - 1) _ _ w (λ x k. k) (λ k. join_kept m kind law q _ _ _ _ w.scene _ k _ wide e)

-- the beats and the log stay together

module _ (o : Moment) (rules : Rules) where
  pub join_keeps_log : (i : ℕ) (s : State) → 1 ≤ i → i ≤ rules.plan.n → LogHolds o rules s → LogNext o rules s (after_join (trip rules.meaning) i s) []
  join_keeps_log i s lo hi t =
      let c = s.table.clock in
      let joining = with_record c i _ s.log in
      let w = further c s.log joining (with_record c i Sent joining) (told c s.log _ refl refl) (told c joining _ refl refl) in
      let e = length_push s.log (happening c i _ (length s.log)) in
      log_onward o rules s (after_join (trip rules.meaning) i s) (
        turns_one o rules.plan.n c 3 i (joined c (c + trip rules.meaning) (length s.log + 1) (the i s.table)) s.table.parties s.log _ lo hi w t
            (put_entry i _ _ (the i s.table) _ (omega arith) (subst (SentBy (with_record c i Sent joining) i) e (sent_push joining c i _))),
        w,
      )

-- what is written

module _ (rules : Rules) (S : ℕ → Type 0) where
  pub join_writes : (x i : ℕ) (s : State) → i ≤ rules.plan.n → Grown (Wrote rules.plan.n s.table.clock S) s.log (after_join x i s).log
  join_writes x i s h =
      let c = s.table.clock in
      grown_further _ _ _ _ (grown_by_one rules S c s.log i _ _ h refl) (grown_by_one rules S c _ i _ _ h refl)

-- the log tells the group

module _ (rules : Rules) (i : ℕ) (lo : 1 ≤ i) (hi : i ≤ rules.plan.n) where
  pub join_tells_party : (j : ℕ) (s : State) → 1 ≤ j → rules.plan.n ≤ length s.table.parties → TellsParty rules i lo hi s → TellsParty rules i lo hi (after_join (trip rules.meaning) j s)
  join_tells_party j s low long e =
      let c = s.table.clock in
      let h = happening c j IsJoining (length s.log) in
      let k = happening c j Sent (length (s.log ++ h ∷ [])) in
      let f = account_idle rules i lo hi (s.log ++ h ∷ []) k (λ a. refl) in
      account_changes rules i lo hi j (joined c (c + trip rules.meaning) (length s.log + 1) (the j s.table)) s.table.parties s.log ((s.log ++ h ∷ []) ++ k ∷ []) low long e
      (λ here g. f ∙ account_mine rules i lo hi s.log h here ∙ ap (tells_as IsJoining c) g)
      (λ there. f ∙ account_other rules i lo hi s.log h there)

pub join_tells_root : (x i : ℕ) (s : State) → TellsRoot s → TellsRoot (after_join x i s)
join_tells_root x i s e =
    let h = happening s.table.clock i IsJoining (length s.log) in
    root_idle (s.log ++ h ∷ []) (happening s.table.clock i Sent (length (s.log ++ h ∷ []))) (λ r. refl) ∙ root_idle s.log h (λ r. refl) ∙ e

-- no beat vanishes

module _ (rules : Rules) where
  pub join_accounts : (j : ℕ) (s : State) → 1 ≤ j → j ≤ rules.plan.n → (the j s.table).legs.entry ≡ None → rules.plan.n ≤ length s.table.parties → AllAccounted rules s → AllAccounted rules (after_join (trip rules.meaning) j s)
  join_accounts j s lo hi free long a =
      let c = s.table.clock in
      let p = the j s.table in
      let h = happening c j IsJoining (length s.log) in
      let log = s.log ++ h ∷ [] in
      let d = beat (c + trip rules.meaning) false (length s.log + 1) in
      let p' = joined c (c + trip rules.meaning) (length s.log + 1) p in
      beats_changes rules.plan.n (j - 1) p' s.table.parties s.log (log ++ happening c j Sent (length log) ∷ []) (omega arith) long
      (λ G b. beside_puts G p p' 3 d log (happening c j Sent (length log)) (keeps_entry p d free) refl (sym (length_push s.log h))
      (beside_tells G p s.log h (λ is. absurd (grind arith)) b)) a

-- a struck party stays struck

module _ (i : ℕ) where
  pub join_keeps_struck : (x j : ℕ) (s : State) → IsStruck i s → IsStruck i (after_join x j s)
  join_keeps_struck x j s e = struck_changes i j _ s.table.parties (λ f. f) e
