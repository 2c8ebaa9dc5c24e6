-- A party that leaves keeps what holds of each run.
use Rattle.std.proofs.Common.{Bool, [], ap, arith, length, refl, ℕ, ◌++◌, ◌-◌, ◌∙◌, ◌∷◌, ◌≡◌, ◌≤◌}
use Rattle.std.proofs.lemmas.Bool.Decides.{nat_tests}
use Rattle.protocol.specs.declared.party.Party.{Party}
use Rattle.protocol.specs.declared.party.Standing.TheVariants.{Live}
use Rattle.protocol.specs.declared.table.Root.{Root}
use Rattle.protocol.specs.declared.kind.GroupKind.{GroupKind}
use Rattle.protocol.specs.declared.kind.GroupKind.TheVariants.{Closed}
use Rattle.protocol.specs.declared.party.Stage.TheVariants.{In}
use Rattle.protocol.specs.declared.happening.HappeningKind.TheVariants.{Leaving as IsLeaving}
use Rattle.protocol.specs.calls.Leave.{after_leave, now_leaving}
use Rattle.protocol.specs.Kept.{Kept, LawfulTerms, Scene, Terms, Whole}
use Rattle.protocol.specs.Rules.{Rules}
use Rattle.protocol.specs.State.{State, happening, the}
use Rattle.protocol.specs.Told.{tells_as}
use Rattle.protocol.specs.Strikes.{IsStruck}
use Rattle.protocol.proofs.Onward.{told}
use Rattle.protocol.proofs.Legs.{stays}
use Rattle.protocol.proofs.Whole.{one_kept}
use Rattle.protocol.proofs.Logs.{LogHolds, LogNext, Moment, log_onward, turns_one}
use Rattle.protocol.proofs.Records.{Grown, Wrote, grown_by_one}
use Rattle.protocol.proofs.Told.{TellsParty, TellsRoot, account_changes, account_mine, account_other, root_idle}
use Rattle.protocol.proofs.Sendings.{AllAccounted, beats_tell_one}
use Rattle.protocol.proofs.Strikes.{struck_changes}

-- a group stays whole

module _ (m : Terms) (kind : GroupKind) (law : LawfulTerms m kind) (q : Bool) (c : ℕ) (r : Root) (a l : ℕ) (s : Scene m c r a l) (p : Party)
    (k : Kept m kind q c r a l p) where
  leave_kept : (kind ≡ Closed → ⊥) → p.own.standing ≡ Live In → Kept m kind q c r a l (now_leaving p)
  leave_kept wide e = grind (arith, nat_tests)

module _ (m : Terms) (kind : GroupKind) (law : LawfulTerms m kind) (n : ℕ) where
  pub leave_keeps_whole : (q : Bool) (i : ℕ) (s : State) → (kind ≡ Closed → ⊥) → (the i s.table).own.standing ≡ Live In → Whole m kind q n s.table → Whole m kind q n (after_leave i s).table
  leave_keeps_whole q i s wide e w = one_kept m kind law n q q s.table (i - 1) _ _ w (λ x k. k) (λ k. leave_kept m kind law q _ _ _ _ w.scene _ k wide e)

-- the beats and the log stay together

module _ (o : Moment) (rules : Rules) where
  pub leave_keeps_log : (i : ℕ) (s : State) → 1 ≤ i → i ≤ rules.plan.n → LogHolds o rules s → LogNext o rules s (after_leave i s) []
  leave_keeps_log i s lo hi t =
      let w = told s.table.clock s.log (happening s.table.clock i _ (length s.log)) refl refl in
      log_onward o rules s (after_leave i s) (turns_one o rules.plan.n _ 0 i _ s.table.parties s.log _ lo hi w t (stays i _ _ 0 (the i s.table)), w)

-- what is written

module _ (rules : Rules) (S : ℕ → Type 0) where
  pub leave_writes : (i : ℕ) (s : State) → i ≤ rules.plan.n → Grown (Wrote rules.plan.n s.table.clock S) s.log (after_leave i s).log
  leave_writes i s h = grown_by_one rules S s.table.clock s.log i _ _ h refl

-- the log tells the group

module _ (rules : Rules) (i : ℕ) (lo : 1 ≤ i) (hi : i ≤ rules.plan.n) where
  pub leave_tells_party : (j : ℕ) (s : State) → 1 ≤ j → rules.plan.n ≤ length s.table.parties → TellsParty rules i lo hi s → TellsParty rules i lo hi (after_leave j s)
  leave_tells_party j s low long e =
      let c = s.table.clock in
      let h = happening c j IsLeaving (length s.log) in
      account_changes rules i lo hi j (now_leaving (the j s.table)) s.table.parties s.log (s.log ++ h ∷ []) low long e
      (λ here f. account_mine rules i lo hi s.log h here ∙ ap (tells_as IsLeaving c) f)
      (λ there. account_other rules i lo hi s.log h there)

pub leave_tells_root : (i : ℕ) (s : State) → TellsRoot s → TellsRoot (after_leave i s)
leave_tells_root i s e = root_idle s.log (happening s.table.clock i IsLeaving (length s.log)) (λ r. refl) ∙ e

-- no beat vanishes

module _ (rules : Rules) where
  pub leave_accounts : (j : ℕ) (s : State) → 1 ≤ j → j ≤ rules.plan.n → rules.plan.n ≤ length s.table.parties → AllAccounted rules s → AllAccounted rules (after_leave j s)
  leave_accounts j s lo hi long a =
      beats_tell_one rules j (now_leaving (the j s.table)) s (happening s.table.clock j IsLeaving (length s.log)) lo hi (λ is. absurd (grind arith)) (λ leg b e. e) long a

-- a struck party stays struck

module _ (i : ℕ) where
  pub leave_keeps_struck : (j : ℕ) (s : State) → IsStruck i s → IsStruck i (after_leave j s)
  leave_keeps_struck j s e = struck_changes i j _ s.table.parties (λ f. f) e
