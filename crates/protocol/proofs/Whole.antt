-- What holds of a whole group between the calls of a run, when one party has changed.
use Rattle.std.proofs.Common.{Bool, List, arith, false, get_or, length-set, set, true, ℕ, ◌&&◌, ◌≡◌}
use Rattle.protocol.specs.declared.party.Party.{Party}
use Rattle.protocol.specs.declared.kind.GroupKind.{GroupKind}
use Rattle.protocol.specs.declared.happening.Happening.{Happening}
use Rattle.protocol.specs.declared.table.Table.{Table}
use Rattle.pace.specs.Meaning.{Lawful, Meaning}
use Rattle.protocol.specs.Rules.{Rules}
use Rattle.protocol.specs.Party.{nobody}
use Rattle.protocol.specs.State.{State, with_parties}
use Rattle.protocol.specs.Kept.{Kept, LawfulTerms, Scene, Terms, Whole, terms}
use Rattle.protocol.proofs.Numbers.{lawful}
use Rattle.protocol.proofs.Lifts.{set_each}
use Rattle.protocol.proofs.Kept.{elsewhere}

pub clash : (b : Bool) → b ≡ true → b ≡ false → ⊥
clash b e f = let z : ◌≡◌ {A = ℕ} 0 1 = cc in omega arith

module _ (m : Terms) (kind : GroupKind) (law : LawfulTerms m kind) (n : ℕ) where
  abbrev pub KeptAt : Bool → Table → Party → Type 0
  KeptAt q t p = Kept m kind q t.clock t.root t.start t.length p

  -- one party has changed
  pub one_kept :
      (q q' : Bool) (t : Table) (i : ℕ) (p : Party) (log : List Happening) → Whole m kind q n t → ((x : Party) → KeptAt q t x → KeptAt q' t x) →
      (KeptAt q t (get_or t.parties i nobody) → KeptAt q' t p) → Whole m kind q' n (with_parties (set t.parties i p) log t).table
  one_kept q q' t i p log w weak change = record {
    scene = w.scene;
    each = λ k h. set_each (KeptAt q' t) t.parties i k p nobody (λ e. change (w.each i (omega arith))) (weak _ (w.each k h));
    long = omega (arith, length-set t.parties i p, w.long);
  }

  pub fades : (q : Bool) (t : Table) → Scene m t.clock t.root t.start t.length → (x : Party) → KeptAt q t x → KeptAt false t x
  fades q t s x k = elsewhere m kind law q _ _ _ _ s x k

module _ (rules : Rules) (sound : Lawful rules.meaning) where
  abbrev μ : Meaning
  μ = rules.meaning

  abbrev kind : GroupKind
  kind = rules.plan.kind

  abbrev n : ℕ
  n = rules.plan.n

  abbrev pub M : Terms
  M = terms μ kind

  pub law : LawfulTerms M kind
  law = lawful μ sound kind

  abbrev pub AllKept : Bool → State → Type 0
  AllKept q s = Whole M kind q n s.table

  pub weaken_whole : (q b : Bool) (s : State) → AllKept q s → AllKept (q && b) s
  weaken_whole true true s w = w
  weaken_whole true false s w = record { scene = w.scene; each = λ k h. fades M kind law n true s.table w.scene _ (w.each k h); long = w.long }
  weaken_whole false b s w = w

  pub harm_whole : (q : Bool) (s : State) → AllKept false s → AllKept (q && false) s
  harm_whole true s w = w
  harm_whole false s w = w
