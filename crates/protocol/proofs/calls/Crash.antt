-- A crash keeps what holds of each run.
use Rattle.std.proofs.Common.{Bool, List, [], arith, false, length, refl, suc, true, zero, ℕ, ◌++◌, ◌-◌, ◌∙◌, ◌∷◌, ◌≡◌, ◌≤◌}
use Rattle.std.proofs.lemmas.Bool.Decides.{nat_tests}
use Rattle.protocol.specs.declared.party.Party.{Party}
use Rattle.protocol.specs.declared.party.Standing.{Standing}
use Rattle.protocol.specs.declared.party.Standing.TheVariants.{Ended, Live, Outside}
use Rattle.protocol.specs.declared.table.Root.{Root}
use Rattle.protocol.specs.declared.table.Root.TheVariants.{Down, Running}
use Rattle.protocol.specs.declared.table.RootEnding.TheVariants.{Crashed as RootCrashed}
use Rattle.protocol.specs.declared.kind.GroupKind.{GroupKind}
use Rattle.protocol.specs.declared.happening.Happening.{Happening}
use Rattle.protocol.specs.declared.table.Table.{Table}
use Rattle.protocol.specs.declared.happening.HappeningKind.TheVariants.{Crashed as HasCrashed}
use Rattle.protocol.specs.calls.Crash.{after_crash, can_crash, crashes, root_after_crash}
use Rattle.protocol.specs.Kept.{Kept, LawfulTerms, Scene, Terms, Whole}
use Rattle.protocol.specs.Rules.{Rules}
use Rattle.protocol.specs.State.{State, happening, runs, the, with_record, with_root}
use Rattle.protocol.specs.Told.{Account, account_of, root_in, tells_as, account_in}
use Rattle.protocol.specs.Strikes.{IsStruck}
use Rattle.protocol.proofs.Onward.{told}
use Rattle.protocol.proofs.Legs.{stays}
use Rattle.protocol.proofs.Whole.{fades, one_kept}
use Rattle.protocol.proofs.Logs.{LogHolds, LogNext, Moment, log_idles, log_onward, turns_one}
use Rattle.protocol.proofs.Records.{Grown, Wrote, grown_by_one}
use Rattle.protocol.proofs.Told.{TellsParty, TellsRoot, account_changes, account_mine, account_other, read_mine, root_other, root_step}
use Rattle.protocol.proofs.Sendings.{AllAccounted, beats_tell_one, beats_tell_root}
use Rattle.protocol.proofs.Strikes.{struck_changes}

-- a group stays whole

module _ (m : Terms) (kind : GroupKind) (law : LawfulTerms m kind) (q : Bool) (c : ℕ) (r : Root) (a l : ℕ) (s : Scene m c r a l) (p : Party)
    (k : Kept m kind q c r a l p) where
  root_crash_kept : r ≡ Running → Kept m kind false c (Down RootCrashed c) a l p
  root_crash_kept up = grind (arith, nat_tests)

  crash_kept : Kept m kind false c r a l (crashes c p)
  crash_kept = let f = law.part (suc p.note.misses) in grind (arith, nat_tests)

module _ (m : Terms) (kind : GroupKind) (law : LawfulTerms m kind) (n : ℕ) where
  root_crash_keeps_whole : (q : Bool) (r : Root) (t : Table) (log : List Happening) → t.root ≡ r → Whole m kind q n t → Whole m kind false n (with_root (root_after_crash r t.clock) log t).table
  root_crash_keeps_whole q Running t log e w = record {
    scene = let s = w.scene in grind arith;
    each = λ k h. root_crash_kept m kind law q _ _ _ _ w.scene _ (w.each k h) e;
    long = w.long;
  }
  root_crash_keeps_whole q (Down how at) t log e w = record {
    scene = rw (← e) w.scene;
    each = λ k h. rw (← e) (fades m kind law n q t w.scene _ (w.each k h));
    long = w.long;
  }

  pub crash_keeps_whole : (q : Bool) (i : ℕ) (s : State) → Whole m kind q n s.table → Whole m kind false n (after_crash i s).table
  crash_keeps_whole q zero s w = root_crash_keeps_whole q s.table.root s.table _ refl w
  crash_keeps_whole q (suc i) s w = one_kept m kind law n q false s.table (suc i - 1) _ _ w (fades m kind law n q s.table w.scene) (λ k. crash_kept m kind law q _ _ _ _ w.scene _ k)

-- the beats and the log stay together

module _ (o : Moment) (rules : Rules) where
  pub crash_keeps_log : (i : ℕ) (s : State) → i ≤ rules.plan.n → LogHolds o rules s → LogNext o rules s (after_crash i s) []
  crash_keeps_log zero s hi t =
      let w = told s.table.clock s.log (happening s.table.clock 0 _ (length s.log)) refl refl in log_onward o rules s (after_crash zero s) (log_idles o rules.plan.n _ s.table.parties s.log _ w t, w)
  crash_keeps_log (suc i) s hi t =
      let w = told s.table.clock s.log (happening s.table.clock (suc i) _ (length s.log)) refl refl in
      log_onward o rules s (after_crash (suc i) s) (turns_one o rules.plan.n _ 0 (suc i) _ s.table.parties s.log _ (omega arith) hi w t (stays (suc i) _ _ 0 (the (suc i) s.table)), w)

-- what is written

module _ (rules : Rules) (S : ℕ → Type 0) where
  pub crash_writes : (i : ℕ) (s : State) → i ≤ rules.plan.n → Grown (Wrote rules.plan.n s.table.clock S) s.log (after_crash i s).log
  crash_writes zero s h = grown_by_one rules S s.table.clock s.log 0 _ _ h refl
  crash_writes (suc i) s h = grown_by_one rules S s.table.clock s.log (suc i) _ _ h refl

-- the log tells the group

module _ (rules : Rules) (i : ℕ) (lo : 1 ≤ i) (hi : i ≤ rules.plan.n) where
  crashes_told : (st : Standing) (c : ℕ) (p : Party) (a : Account) → p.own.standing ≡ st → a ≡ account_of p →
      tells_as HasCrashed c a ≡ account_of (crashes c p)
  crashes_told Outside c p a is e = grind arith
  crashes_told (Live g) c p a is e = grind arith
  crashes_told (Ended how at g) c p a is e = grind arith

  pub crash_tells_party : (j : ℕ) (s : State) → rules.plan.n ≤ length s.table.parties → TellsParty rules i lo hi s → TellsParty rules i lo hi (after_crash j s)
  crash_tells_party zero s long e = account_other rules i lo hi s.log (happening s.table.clock 0 HasCrashed (length s.log)) (λ z. absurd (omega arith)) ∙ e
  crash_tells_party (suc j) s long e =
      let c = s.table.clock in
      let h = happening c (suc j) HasCrashed (length s.log) in
      let p = the (suc j) s.table in
      account_changes rules i lo hi (suc j) (crashes c p) s.table.parties s.log (s.log ++ h ∷ []) (omega arith) long e
      (λ here f. account_mine rules i lo hi s.log h here ∙ crashes_told p.own.standing c p (account_in rules.plan.kind i s.log) refl f)
      (λ there. account_other rules i lo hi s.log h there)

root_crash_tells_root : (r : Root) (c : ℕ) (log : List Happening) → runs r ≡ true → root_in (with_record c 0 HasCrashed log) ≡ root_after_crash r c
root_crash_tells_root Running c log e = read_mine root_step 0 Running log (happening c 0 HasCrashed (length log)) refl
root_crash_tells_root (Down how at) c log e = absurd (grind arith)

pub crash_tells_root : (j : ℕ) (s : State) → can_crash j s ≡ true → TellsRoot s → TellsRoot (after_crash j s)
crash_tells_root zero s up e = root_crash_tells_root s.table.root s.table.clock s.log up
crash_tells_root (suc j) s up e = root_other s.log (happening s.table.clock (suc j) HasCrashed (length s.log)) (omega arith) ∙ e

-- no beat vanishes

module _ (rules : Rules) where
  pub crash_accounts : (j : ℕ) (s : State) → j ≤ rules.plan.n → rules.plan.n ≤ length s.table.parties → AllAccounted rules s → AllAccounted rules (after_crash j s)
  crash_accounts zero s hi long a = beats_tell_root rules s (happening s.table.clock 0 HasCrashed (length s.log)) (λ is. absurd (grind arith)) a
  crash_accounts (suc j) s hi long a =
      beats_tell_one rules (suc j) (crashes s.table.clock (the (suc j) s.table)) s (happening s.table.clock (suc j) HasCrashed (length s.log)) (omega arith) hi
      (λ is. absurd (grind arith)) (λ leg b e. e) long a

-- a struck party stays struck

module _ (i : ℕ) where
  pub crash_keeps_struck : (j : ℕ) (s : State) → IsStruck i s → IsStruck i (after_crash j s)
  crash_keeps_struck zero s e = e
  crash_keeps_struck (suc j) s e = struck_changes i (suc j) _ s.table.parties (λ f. f) e
