-- A file that is played, from the group's opening to the output.
use Rattle.std.proofs.Common.{◌≡◌, ℕ, zero, suc, ◌-◌, ◌≤◌, Bool, true, false, cond, leb, List, [], ◌++◌, length, take, drop, IfOk, Ok, Err, Result, sym, refl, ap, ◌∙◌, ap₂, subst, arith, length-append}
use Rattle.pace.specs.Meaning.{Meaning, Lawful}
use Rattle.slots.specs.declared.SlotList.{SlotList}
use Rattle.slots.specs.Slots.{items, spare}
use Rattle.slots.proofs.Growing.{items_length, whole, fresh}
use Rattle.protocol.specs.declared.happening.Happening.{Happening}
use Rattle.protocol.specs.declared.table.Table.{Table}
use Rattle.protocol.specs.declared.plan.Plan.{Plan}
use Rattle.protocol.specs.State.{State, opening, new_table}
use Rattle.protocol.specs.Questions.{is_own_log}
use Rattle.protocol.specs.Promise.{KeepsTheRules}
use Rattle.protocol.proofs.Rehearsal.{keeps}
use Rattle.pace.specs.declared.meaning.Pace.{Ghosts}
use Rattle.protocol.specs.Rules.{Rules}
use Rattle.group.specs.declared.group.Group.{Group}
use Rattle.group.specs.Does.{rules, state}
use Rattle.player.specs.declared.play.PlayStop.{PlayStop}
use Rattle.runs.specs.Runs.{RunOf, rules_over}
use Rattle.orders.specs.declared.order.Order.{Order}
use Rattle.orders.specs.declared.start.Start.{Start}
use Rattle.graphml.specs.declared.answer.Exported.{Exported}
use Rattle.graphml.specs.declared.answer.Refusal.{Refusal}
use Rattle.graphml.specs.Body.{body}
use Rattle.markup.specs.Closing.{Closes}
use Rattle.graphml.specs.Log.{ShowsTheLog}
use Rattle.graphml.specs.Answer.{in_frame, part, over, summary}
use Rattle.graphml.specs.Export.{export_answer, export_bytes}
use Rattle.graphml.specs.Lent.{lent}
use Rattle.graphml.specs.Shown.{ShowsTheRun}
use Rattle.graphml.proofs.Shown.{shows}
use Rattle.player.specs.declared.fault.FileFault.{FileFault}
use Rattle.player.specs.declared.program.Ran.{Ran}
use Rattle.player.specs.Playing.{Playing, playing, Plays, stop_told}
use Rattle.player.specs.Program.{cap_and_plan_no, orders_run, Outcome, Prints, IsPlayed, SetUpComesTo}
use Rattle.player.specs.Notices.{refused_line}
use Rattle.player.specs.Told.{bytes_told, lines_told, outcome_of}
use Rattle.player.specs.Faults.{file_number, TellsOfNoRecord}
use Rattle.player.proofs.Running.{plays_run}
use Rattle.markup.specs.Cut.{EndsAt}
use Rattle.graphml.specs.Elements.{spelling}

-- a question is answered no, and nothing was written
pub not_set_up : (n : ℕ) (m : Meaning) (s : Start) (orders : List Order) (hs : List Happening) (out : List ℕ) (r : Result Ran FileFault) (f : FileFault) →
    (n ≡ 0 → false ≡ true) → TellsOfNoRecord n f → r ≡ Err f → SetUpComesTo n m s orders (outcome_of (lent hs hs) (lent out out) r)
not_set_up zero m s orders hs out r f asked t e = absurd (let h = asked refl in cc)
not_set_up (suc k) m s orders hs out r f asked t e =
    record {
      log = refl;
      output = refl;
      no_file = ap bytes_told e;
      told = ap lines_told e ∙ ap (λ b. refused_line b (file_number f)) t.0 ∙ ap (refused_line 0) t.1;
    }

-- both questions are answered yes, and the file is played
pub set_up : (s : Start) (m m' : Meaning) (plan : Plan) (orders : List Order) (came : Outcome) →
    cap_and_plan_no s ≡ 0 → m' ≡ m → plan.kind ≡ s.kind → plan.n ≡ s.parties → IsPlayed (rules_over m' plan came.log.before) orders came →
    SetUpComesTo (cap_and_plan_no s) m s orders came
set_up s m m' plan orders came z e k n p =
    subst (λ i. SetUpComesTo i m s orders came) (sym z)
    (plan, k, n, subst (λ x. IsPlayed (rules_over x plan came.log.before) orders came) e p)

framed : (b c : Bool) (x e : Exported) (r₀ r₁ : Refusal) (t out out' : List ℕ) → Ok e ≡ cond b (cond c (Ok x) (Err r₀)) (Err r₁) →
    out' ≡ cond b (cond c (over t out) out) out → x.bytes ≡ length t → length out' ≡ length out → e.bytes ≤ length out
framed true true x e r₀ r₁ t out out' a w n long =
    let same : e ≡ x = cc in
    omega (arith, ap (λ (y : Exported). y.bytes) same, n, long, simp length-append at (ap length w))
framed true false x e r₀ r₁ t out out' a w n long = let z : ◌≡◌ {A = ℕ} 0 1 = cc in omega arith
framed false c x e r₀ r₁ t out out' a w n long = let z : ◌≡◌ {A = ℕ} 0 1 = cc in omega arith

-- no more bytes are told than the output has
pub told_within : (s : State) (n : ℕ) (out out' : List ℕ) (e : Exported) → Ok e ≡ export_answer s n (length out) → out' ≡ export_bytes s n out →
    length out' ≡ length out → e.bytes ≤ length out
told_within s n out out' e a w long =
    framed (is_own_log s) (leb 275 (length out)) (summary (part s.log n (length out)) _) e _ _ (in_frame (part s.log n (length out))) out out' a w refl long

-- a group just opened over the lent slots, and what it came to
module _ {A : Type 0} {D : Ghosts A} (orders : List Order) (hs : List Happening) (g g' : Group A D) (l l' : SlotList Happening) (answer : Result (Unit {0}) PlayStop)
    (sound : Lawful (D.means g.pace)) (new : g.table ≡ new_table (D.means g.pace).tmax g.plan.kind) (empty : items l ≡ []) (given : spare l ≡ hs)
    (made : Plays orders g g' l l' answer) where
  abbrev R : Rules
  R = rules_over (D.means g.pace) g.plan hs

  abbrev ran : Playing
  ran = orders_run R orders

  taken : RunOf R ran.calls (opening R) ran.state
  taken = plays_run R 0 orders (opening R)

  kept : KeepsTheRules R taken.steps ran.state
  kept = keeps R sound taken.steps ran.state taken.by_the_rules

  slots_are : l.slots.now ≡ hs
  slots_are = fresh l hs empty given

  start : state g l ≡ opening R
  start = ap₂ (λ (t : Table) (xs : List Happening). record { table = t; log = xs }) new empty

  from_new : playing (rules g l) 0 orders (state g l) ≡ ran
  from_new =
      ap (λ (xs : List Happening). playing (rules_over (D.means g.pace) g.plan xs) 0 orders (state g l)) slots_are
      ∙ ap (λ s. playing R 0 orders s) start

  state_is : state g' l' ≡ ran.state
  state_is = made.after ∙ ap (λ (x : Playing). x.state) from_new

  log_is : l'.slots.now ≡ ran.state.log ++ drop (length ran.state.log) hs
  log_is =
      let it : items l' ≡ ran.state.log = ap (λ (x : State). x.log) state_is in
      whole l' ∙ ap (λ xs. xs ++ spare l') it
      ∙ ap (λ xs. ran.state.log ++ xs)
      (made.stays.extends.later ∙ ap (λ xs. drop l'.len xs) slots_are ∙ ap (λ k. drop k hs) (sym (items_length l') ∙ ap length it))

  -- it is exported, and printed with the stop
  pub played : (hs' : List Happening) (out out' : List ℕ) (r : Result Exported Refusal) (bytes : ℕ) (lines : List ℕ) →
      hs' ≡ l'.slots.now → r ≡ export_answer (state g' l') g'.plan.n (length out) → out' ≡ export_bytes (state g' l') g'.plan.n out →
      IfOk r (λ x. x.whole ≡ true → take x.bytes out' ≡ in_frame (body (items l') g'.plan.n)) →
      IfOk r (λ x. x.whole ≡ false → EndsAt spelling (length out - 275) (body (items l') g'.plan.n)) →
      IfOk r (λ x. Closes (take x.bytes out')) → IfOk r (λ x. ShowsTheLog g'.plan.n (items l') x (take x.bytes out')) →
      Prints r (stop_told answer) bytes lines →
      IsPlayed R orders (record { log = lent hs hs'; out = lent out out'; bytes = bytes; lines = lines })
  played hs' out out' r bytes lines h told written entire cut closes shows_log prints =
      let here = subst (KeepsTheRules R taken.steps) (sym state_is) kept in
      let shown =
      subst (λ x. ShowsTheRun R taken.steps x (lent out out') r) state_is
      (shows R taken.steps (state g' l') out out' r g'.plan made.stays.plan here told written entire cut closes shows_log) in
      record {
        made = taken;
        promise = kept;
        log = h ∙ log_is;
        file = subst (ShowsTheRun R taken.steps ran.state (lent out out')) shown.answer_as_defined shown;
        prints =
            subst (λ x. Prints x ran.stop bytes lines) shown.answer_as_defined
            (subst (λ x. Prints r x bytes lines) (made.stop ∙ ap (λ (x : Playing). x.stop) from_new) prints);
      }
