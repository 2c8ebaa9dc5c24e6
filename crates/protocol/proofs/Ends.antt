-- The laws of runs, from what each call keeps.
use Rattle.std.proofs.Common.{◌≡◌, ℕ, ◌+◌, ◌-◌, ◌<◌, ◌≤◌, Bool, true, refl, subst, arith}
use Rattle.std.proofs.lemmas.Bool.Decides.{nat_tests}
use Rattle.protocol.specs.declared.party.Party.{Party}
use Rattle.protocol.specs.declared.party.Stage.{Stage}
use Rattle.protocol.specs.declared.party.Stage.TheVariants.{In}
use Rattle.protocol.specs.declared.party.Ending.{Ending}
use Rattle.protocol.specs.declared.party.Ending.TheVariants.{Stopped}
use Rattle.protocol.specs.declared.party.Standing.{Standing}
use Rattle.protocol.specs.declared.party.Standing.TheVariants.{Outside, Live, Ended}
use Rattle.protocol.specs.declared.party.Roll.TheVariants.{On}
use Rattle.protocol.specs.declared.table.Root.{Root}
use Rattle.protocol.specs.declared.table.Root.TheVariants.{Running, Down}
use Rattle.protocol.specs.declared.table.RootEnding.{RootEnding}
use Rattle.protocol.specs.declared.kind.GroupKind.{GroupKind}
use Rattle.protocol.specs.declared.plan.Plan.{Plan}
use Rattle.pace.specs.Meaning.{Lawful}
use Rattle.protocol.specs.State.{State, the}
use Rattle.protocol.specs.Rules.{Rules}
use Rattle.protocol.specs.Laws.{RootFollows, PartiesFollow, StopsForCause, NobodyStopped}
use Rattle.protocol.specs.Kept.{Terms, LawfulTerms, Kept, Scene, Whole, terms}
use Rattle.protocol.proofs.Numbers.{lawful}

module _ (m : Terms) (kind : GroupKind) (law : LawfulTerms m kind) (q : Bool) (c : ℕ) (a l : ℕ) (p : Party) where
  root_down : (r : Root) (how : Ending) (e : ℕ) (g : Stage) → Scene m c r a l → Kept m kind q c r a l p → p.note.roll ≡ On → p.own.standing ≡ Ended how e g → e + m.patience < c →
      (x : ℕ) × ((how : RootEnding) × (r ≡ Down how x))
  root_down Running how e g s k on end late = absurd (grind (arith, nat_tests))
  root_down (Down how' x) how e g s k on end late = (x, (how', refl))

  party_down : (st : Standing) (r : ℕ) (how : RootEnding) → Kept m kind q c (Down how r) a l p → p.note.roll ≡ On → r + m.patience + m.trip < c → p.own.standing ≡ st →
      (e : ℕ) × ((how : Ending) × (g : Stage) × (p.own.standing ≡ Ended how e g))
  party_down Outside r how k on late is = absurd (grind (arith, nat_tests))
  party_down (Live g) r how k on late is = absurd (grind (arith, nat_tests))
  party_down (Ended how' e g) r how k on late is = (e, (how', g, is))

  for_cause : (r : Root) (e : ℕ) → Kept m kind q c r a l p → p.own.standing ≡ Ended Stopped e In → (x : ℕ) × ((how : RootEnding) × (r ≡ Down how x)) × (x ≤ e)
  for_cause Running e k is = absurd (grind (arith, nat_tests))
  for_cause (Down how x) e k is = (x, (how, refl), grind (arith, nat_tests))

module _ (rules : Rules) (sound : Lawful rules.meaning) where
  abbrev plan : Plan
  plan = rules.plan

  abbrev M : Terms
  M = terms rules.meaning plan.kind

  law : LawfulTerms M plan.kind
  law = lawful rules.meaning sound plan.kind

  pub root_follows : (q : Bool) (s : State) → Whole M plan.kind q plan.n s.table → RootFollows rules s
  root_follows q s w = record {
    root_follows = λ i e lo hi on end late.
        root_down M plan.kind law q _ _ _ _ _ end.0 e end.1 w.scene (w.each (i - 1) (omega arith)) on end.2 late;
  }

  pub parties_follow : (q : Bool) (s : State) → Whole M plan.kind q plan.n s.table → PartiesFollow rules s
  parties_follow q s w = record {
    parties_follow = λ r i down late lo hi on.
        party_down M plan.kind law q s.table.clock s.table.start s.table.length (the i s.table) (the i s.table).own.standing r down.0
        (subst (λ x. Kept M plan.kind q s.table.clock x s.table.start s.table.length (the i s.table)) down.1 (w.each (i - 1) (omega arith))) on late refl;
  }

  pub stops_for_cause : (q : Bool) (s : State) → Whole M plan.kind q plan.n s.table → StopsForCause rules s
  stops_for_cause q s w = record {
    stops_for_cause = λ i e lo hi is. for_cause M plan.kind law q _ _ _ _ s.table.root e (w.each (i - 1) (omega arith)) is;
  }

  none_stopped : (s : State) → Whole M plan.kind true plan.n s.table → NobodyStopped rules s
  none_stopped s w = record {
    root_not = λ e is. let k = w.each 0 plan.some in absurd (grind arith);
    party_not = λ i e g lo hi is. let k = w.each (i - 1) (omega arith) in absurd (grind arith);
  }

  pub nobody_stopped : (q : Bool) (s : State) → Whole M plan.kind q plan.n s.table → q ≡ true → NobodyStopped rules s
  nobody_stopped q s w good = none_stopped s (subst (λ q. Whole M plan.kind q plan.n s.table) good w)
