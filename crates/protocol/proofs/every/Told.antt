-- Every call tells what it does, so the log of every run tells its group.
use Rattle.std.proofs.Common.{Bool, List, ap, arith, leb, length, refl, suc, sym, true, zero, ℕ, ◌-◌, ◌∙◌, ◌≡◌, ◌≤◌}
use lib.ListN.{get_or-replicate}
use Rattle.protocol.specs.declared.kind.GroupKind.{GroupKind}
use Rattle.protocol.specs.declared.call.Call.{Call}
use Rattle.protocol.specs.declared.call.Call.TheVariants.{Crash, Deliver, Join, Leave, Lose, Tick}
use Rattle.protocol.specs.Rules.{Rules, trip}
use Rattle.protocol.specs.Party.{fresh, nobody, on_leg}
use Rattle.protocol.specs.calls.Crash.{can_crash}
use Rattle.protocol.specs.State.{State, opening, the}
use Rattle.protocol.specs.Questions.{asks}
use Rattle.protocol.specs.Runs.{effect, number, run_state}
use Rattle.protocol.specs.Told.{TellsTheGroup, account_of, first_account, account_in}
use Rattle.protocol.proofs.Runs.{every_state}
use Rattle.protocol.proofs.Asked.{asked_party}
use Rattle.protocol.proofs.Told.{TellsRoot, set_long}
use Rattle.protocol.proofs.calls.Deliver.{delivery_keeps_parties, delivery_tells_party, delivery_tells_root}
use Rattle.protocol.proofs.calls.Lose.{loss_keeps_parties, loss_tells_party, loss_tells_root}
use Rattle.protocol.proofs.calls.Crash.{crash_tells_party, crash_tells_root}
use Rattle.protocol.proofs.calls.Join.{join_tells_party, join_tells_root}
use Rattle.protocol.proofs.calls.Leave.{leave_tells_party, leave_tells_root}
use Rattle.protocol.proofs.calls.Tick.{tick_keeps_parties, tick_tells_party, tick_tells_root}

-- the whole group, over a run

module _ (rules : Rules) where
  -- there are parties enough, and the log tells of each and of the root
  record AllTold (s : State) : Type 0 where
    pub long : rules.plan.n ≤ length s.table.parties
    pub tells : TellsTheGroup rules s

  asked_crash : (i : ℕ) (a b : Bool) (x : ℕ) → asks a 6 (asks b 8 x) ≡ 0 → b ≡ true
  asked_crash i a b x e = grind arith

  call_tells_root : (call : Call) (s : State) → number rules call s ≡ 0 → TellsRoot s → TellsRoot (effect rules call s)
  call_tells_root Tick s z e = tick_tells_root rules s e
  call_tells_root (Deliver i leg) s z e = delivery_tells_root (on_leg leg (the i s.table)) i leg s e
  call_tells_root (Lose i leg) s z e = loss_tells_root (on_leg leg (the i s.table)) i leg s e
  call_tells_root (Crash i) s z e = crash_tells_root i s (asked_crash i (leb i rules.plan.n) (can_crash i s) _ z) e
  call_tells_root (Join i) s z e = join_tells_root (trip rules.meaning) i s e
  call_tells_root (Leave i) s z e = leave_tells_root i s e

  call_keeps_parties : (call : Call) (s : State) → rules.plan.n ≤ length s.table.parties → rules.plan.n ≤ length (effect rules call s).table.parties
  call_keeps_parties Tick s h = tick_keeps_parties rules s h
  call_keeps_parties (Deliver i leg) s h = delivery_keeps_parties rules (on_leg leg (the i s.table)) i leg s h
  call_keeps_parties (Lose i leg) s h = loss_keeps_parties rules (on_leg leg (the i s.table)) i leg s h
  call_keeps_parties (Crash zero) s h = h
  call_keeps_parties (Crash (suc i)) s h = set_long rules.plan.n s.table.parties (suc i - 1) _ h
  call_keeps_parties (Join i) s h = set_long rules.plan.n s.table.parties (i - 1) _ h
  call_keeps_parties (Leave i) s h = set_long rules.plan.n s.table.parties (i - 1) _ h

  module _ (i : ℕ) (lo : 1 ≤ i) (hi : i ≤ rules.plan.n) where
    call_tells_party : (call : Call) (s : State) → number rules call s ≡ 0 → rules.plan.n ≤ length s.table.parties →
        account_in rules.plan.kind i s.log ≡ account_of (the i s.table) → account_in rules.plan.kind i (effect rules call s).log ≡ account_of (the i (effect rules call s).table)
    call_tells_party Tick s z long e = tick_tells_party rules i lo hi s long e
    call_tells_party (Deliver j leg) s z long e = delivery_tells_party rules i lo hi (on_leg leg (the j s.table)) j leg s refl (asked_party rules.plan.n j _ z).0 long e
    call_tells_party (Lose j leg) s z long e = loss_tells_party rules i lo hi (on_leg leg (the j s.table)) j leg s (asked_party rules.plan.n j _ z).0 long e
    call_tells_party (Crash j) s z long e = crash_tells_party rules i lo hi j s long e
    call_tells_party (Join j) s z long e = join_tells_party rules i lo hi j s (asked_party rules.plan.n j _ z).0 long e
    call_tells_party (Leave j) s z long e = leave_tells_party rules i lo hi j s (asked_party rules.plan.n j _ z).0 long e

  call_tells : (call : Call) (s : State) → number rules call s ≡ 0 → AllTold s → AllTold (effect rules call s)
  call_tells call s z w = record {
    long = call_keeps_parties call s w.long;
    tells = record {
      party = λ i lo hi. call_tells_party i lo hi call s z w.long (w.tells.party i lo hi);
      root = call_tells_root call s z w.tells.root;
    };
  }

  fresh_told : (kind : GroupKind) → first_account kind ≡ account_of (fresh kind)
  fresh_told kind = grind arith

  opens : AllTold (opening rules)
  opens = record {
    long = omega (arith, rules.plan.few);
    tells = record {
      party = λ i lo hi. fresh_told rules.plan.kind ∙ ap account_of (sym (get_or-replicate 32 (i - 1) (fresh rules.plan.kind) nobody (omega (arith, rules.plan.few))));
      root = refl;
    };
  }

pub tells_the_group : (rules : Rules) (calls : List Call) → TellsTheGroup rules (run_state rules calls)
tells_the_group rules calls = (every_state rules (opening rules) (AllTold rules) (call_tells rules) (opens rules) calls).tells
