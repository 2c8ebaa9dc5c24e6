-- Playing is a run of calls by the rules.
use Rattle.std.proofs.Common.{Result, ◌≡◌, ℕ, zero, suc, ◌+◌, List, [], ◌∷◌, ◌++◌, sym, refl, subst}
use Rattle.pace.specs.Meaning.{Lawful}
use Rattle.slots.specs.declared.SlotList.{SlotList}
use Rattle.protocol.specs.declared.happening.Happening.{Happening}
use Rattle.protocol.specs.State.{State, opening}
use Rattle.protocol.specs.Making.{Making, making}
use Rattle.protocol.proofs.Rehearsal.{then, keeps}
use Rattle.runs.specs.Runs.{RunOf}
use Rattle.runs.proofs.Answering.{makes_run, run_then}
use Rattle.orders.specs.declared.order.Order.{Order}
use Rattle.player.specs.Playing.{Playing, calls_for, goes_on_from, playing, Plays, stop_told}
use Rattle.pace.specs.declared.meaning.Pace.{Ghosts}
use Rattle.protocol.specs.Rules.{Rules}
use Rattle.group.specs.declared.group.Group.{Group}
use Rattle.group.specs.Does.{rules, state, Stays}
use Rattle.player.specs.declared.play.PlayStop.{PlayStop}

module _ (rules : Rules) where
  order_run : (n k : ℕ) (s : State) (x : Making) (rest : Playing) → RunOf rules x.calls s x.state → RunOf rules rest.calls x.state rest.state →
      RunOf rules (goes_on_from n k x rest).calls s (goes_on_from n k x rest).state
  order_run zero k s x rest p q = run_then rules x.calls rest.calls s x.state rest.state p q
  order_run (suc n) k s x rest p q = p

  pub plays_run : (k : ℕ) (os : List Order) (s : State) → RunOf rules (playing rules k os s).calls s (playing rules k os s).state
  plays_run k [] s = record { steps = []; by_the_rules = refl; made = refl }
  plays_run k (o ∷ os) s =
      let cs = calls_for s.table.clock o in
      let x = making rules cs s in
      order_run x.number k s x (playing rules (k + 1) os x.state) (makes_run rules cs s) (plays_run (k + 1) os x.state)

-- what the playing came to, where its orders are found in a list
pub ended : {A : Type 0} {D : Ghosts A} (os os' : List Order) (g g' : Group A D) (l l' : SlotList Happening) (answer : Result (Unit {0}) PlayStop) →
    Lawful (D.means g.pace) → os ≡ os' → Stays g g' l l' →
    state g' l' ≡ (playing (rules g l) 0 os (state g l)).state → stop_told answer ≡ (playing (rules g l) 0 os (state g l)).stop →
    Plays os' g g' l l' answer
ended os os' g g' l l' answer sound e stays after stop =
    let R = rules g l in
    let s = state g l in
    let run : RunOf R (playing R 0 os s).calls s (state g' l') =
    subst (λ x. RunOf R (playing R 0 os s).calls s x) (sym after) (plays_run R 0 os s) in
    subst (λ xs. Plays xs g g' l l' answer) e
    (record {
      stays = stays;
      stop = stop;
      after = after;
      run = run;
      promise = λ before h. keeps R sound (before ++ run.steps) (state g' l') (then R (opening R) before s run.steps (state g' l') h run.by_the_rules);
    })
