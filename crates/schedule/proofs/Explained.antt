-- A line that is not taken, and the first of its words that does not fit its place.
use Rattle.std.proofs.Common.{drop, ◌≡◌, ℕ, List, [], ◌∷◌, Some, None, Ok, Err, Result, codes, refl, sym, ap, ◌∙◌, arith}
use Rattle.std.specs.Result.{result_err}
use Rattle.orders.specs.declared.order.Order.{Order}
use Rattle.orders.specs.declared.order.OrderKind.{OrderKind as OrderName}
use Rattle.orders.specs.declared.order.OrderKind.TheVariants.{Deliver, Lose, Crash, Join, Leave, Wait}
use Rattle.protocol.specs.declared.kind.GroupKind.{GroupKind as GroupName}
use Rattle.schedule.specs.declared.complaint.Cause.{Cause}
use Rattle.schedule.specs.declared.complaint.Cause.TheVariants.{MissingWord}
use Rattle.schedule.specs.declared.place.Place.{Place}
use Rattle.schedule.specs.declared.place.Place.TheVariants.{GroupKind, Parties, Pace, Tmin, Tmax, CapWord, Cap, Tick, OrderKind, Party, Leg, End}
use Rattle.schedule.specs.Words.{number_word, group_word, pace_word, order_word, only}
use Rattle.schedule.specs.Records.{next_word, byte_if, words_after_if, no_words, and_then, start_behind, order_behind, start_in, order_in, has_party, has_leg}
use Rattle.schedule.specs.Places.{lacking, met, fault, start_places, order_places, kind_places}
use Rattle.schedule.specs.Misfits.{first_word, first_misfit, cause_told, MisfitsExplain}
use Rattle.schedule.proofs.Misplaced.{found_misfit, passed_place}

-- one word more, which r was read from
step : {X Y : Type 0} → (r : Result X Cause) (k : X → Result Y Cause) (p : Place) (ps : List Place) (ws : List (List ℕ)) → fault p (first_word ws) ≡ result_err r →
    ((x : X) → r ≡ Ok x → result_err (k x) ≡ cause_told (first_misfit ps (drop 1 ws))) → result_err (and_then r k) ≡ cause_told (first_misfit (p ∷ ps) ws)
step (Ok x) k p ps ws e h = h x refl ∙ ap cause_told (sym (passed_place p (p ∷ ps) ps ws refl (first_word ws) refl e))
step (Err c) k p ps ws e h = ap cause_told (sym (found_misfit p (p ∷ ps) ps ws refl (first_word ws) c refl e))

due_fault : {X : Type 0} → (read : List ℕ → Result X Cause) (p : Place) → lacking p ≡ Some MissingWord → ((w : List ℕ) → met p w ≡ result_err (read w)) → (ws : List (List ℕ)) →
    fault p (first_word ws) ≡ result_err (next_word read ws)
unfolding next_word
due_fault read p a b [] = a
due_fault read p a b (w ∷ ws) = b w

over_fault : (ws : List (List ℕ)) → fault End (first_word ws) ≡ result_err (no_words ws)
unfolding no_words
over_fault [] = refl
over_fault (w ∷ ws) = refl

none_left : (ws : List (List ℕ)) → None ≡ cause_told (first_misfit [] ws)
unfolding first_misfit
none_left ws = refl

wrapped : {X : Type 0} → (r : Result X Cause) → result_err (and_then r (λ x. Ok (Some x))) ≡ result_err r
wrapped (Ok x) = refl
wrapped (Err e) = refl

rest_of_start : (kind : GroupName) (ws : List (List ℕ)) →
    result_err (start_behind kind ws) ≡ cause_told (first_misfit (Parties ∷ Pace ∷ Tmin ∷ Tmax ∷ CapWord ∷ Cap ∷ End ∷ []) ws)
unfolding start_behind
rest_of_start kind ws =
    step _ _ Parties _ ws (due_fault (number_word 255) Parties refl (λ w. refl) ws) (λ parties _.
    step _ _ Pace _ _ (due_fault pace_word Pace refl (λ w. refl) _) (λ pace _.
    step _ _ Tmin _ _ (due_fault (number_word 4294967295) Tmin refl (λ w. refl) _) (λ tmin _.
    step _ _ Tmax _ _ (due_fault (number_word 4294967295) Tmax refl (λ w. refl) _) (λ tmax _.
    step _ _ CapWord _ _ (due_fault (only (codes "cap")) CapWord refl (λ w. refl) _) (λ u _.
    step _ _ Cap _ _ (due_fault (number_word 255) Cap refl (λ w. refl) _) (λ m _.
    step _ _ End [] _ (over_fault _) (λ v _. none_left _)))))))

start_explained : (w : List ℕ) (ws : List (List ℕ)) → result_err (start_in (w ∷ ws)) ≡ cause_told (first_misfit start_places (w ∷ ws))
unfolding start_in
start_explained w ws = step (group_word w) _ GroupKind _ (w ∷ ws) refl (λ kind _. wrapped (start_behind kind ws) ∙ rest_of_start kind ws)

-- what is read behind an order's kind
abbrev rest : ℕ → OrderName → List (List ℕ) → Result Order Cause
rest tick kind ws1 =
    and_then (byte_if (has_party kind) ws1) (λ party. let ws2 = words_after_if (has_party kind) ws1 in
    and_then (byte_if (has_leg kind) ws2) (λ leg. let ws3 = words_after_if (has_leg kind) ws2 in
    and_then (no_words ws3) (λ u.
    Ok record { kind = kind; party = party; leg = leg; tick = tick })))

ended_order : {X : Type 0} → (x : X) (ws : List (List ℕ)) → result_err (and_then (no_words ws) (λ u. Ok x)) ≡ cause_told (first_misfit (End ∷ []) ws)
ended_order x ws = step (no_words ws) _ End [] ws (over_fault ws) (λ u _. none_left (drop 1 ws))

rest_explained : (tick : ℕ) (kind : OrderName) (ws : List (List ℕ)) → result_err (rest tick kind ws) ≡ cause_told (first_misfit (kind_places kind) ws)
unfolding byte_if
rest_explained tick Deliver ws =
    step (next_word (number_word 255) ws) _ Party _ ws (due_fault (number_word 255) Party refl (λ w. refl) ws) (λ party _.
    step (next_word (number_word 255) (drop 1 ws)) _ Leg _ _ (due_fault (number_word 255) Leg refl (λ w. refl) _) (λ leg _. ended_order _ _))
rest_explained tick Lose ws =
    step (next_word (number_word 255) ws) _ Party _ ws (due_fault (number_word 255) Party refl (λ w. refl) ws) (λ party _.
    step (next_word (number_word 255) (drop 1 ws)) _ Leg _ _ (due_fault (number_word 255) Leg refl (λ w. refl) _) (λ leg _. ended_order _ _))
rest_explained tick Crash ws = step (next_word (number_word 255) ws) _ Party _ ws (due_fault (number_word 255) Party refl (λ w. refl) ws) (λ party _. ended_order _ _)
rest_explained tick Join ws = step (next_word (number_word 255) ws) _ Party _ ws (due_fault (number_word 255) Party refl (λ w. refl) ws) (λ party _. ended_order _ _)
rest_explained tick Leave ws = step (next_word (number_word 255) ws) _ Party _ ws (due_fault (number_word 255) Party refl (λ w. refl) ws) (λ party _. ended_order _ _)
rest_explained tick Wait ws = ended_order _ ws

-- the places behind the tick
abbrev later : Result OrderName Cause → List Place
later (Ok kind) = OrderKind ∷ kind_places kind
later (Err e) = OrderKind ∷ []

ticked : (r : Result OrderName Cause) → order_places r ≡ Tick ∷ later r
ticked (Ok kind) = refl
ticked (Err e) = refl

kind_fault : (ws : List (List ℕ)) → fault OrderKind (first_word ws) ≡ result_err (next_word order_word ws)
kind_fault ws = due_fault order_word OrderKind refl (λ w. refl) ws

rest_of_order : (r : Result OrderName Cause) (tick : ℕ) (ws : List (List ℕ)) → next_word order_word ws ≡ r → result_err (order_behind tick ws) ≡ cause_told (first_misfit (later r) ws)
unfolding order_behind
rest_of_order (Ok kind) tick ws e =
    step (next_word order_word ws) (λ kind. rest tick kind (drop 1 ws)) OrderKind (kind_places kind) ws (kind_fault ws) (λ other f.
    let same : other ≡ kind = let z = sym f ∙ e in cc in
    rest_explained tick other (drop 1 ws) ∙ ap (λ k. cause_told (first_misfit (kind_places k) (drop 1 ws))) same)
rest_of_order (Err c) tick ws e =
    step (next_word order_word ws) (λ kind. rest tick kind (drop 1 ws)) OrderKind [] ws (kind_fault ws) (λ other f.
    absurd (let z : ◌≡◌ {A = ℕ} 0 1 = let y = sym f ∙ e in cc in omega arith))

order_explained : (w : List ℕ) (ws : List (List ℕ)) → result_err (order_in (w ∷ ws)) ≡ cause_told (first_misfit (order_places (next_word order_word ws)) (w ∷ ws))
unfolding order_in
order_explained w ws =
    step (number_word 4294967295 w) _ Tick (later (next_word order_word ws)) (w ∷ ws) refl (λ tick _.
    wrapped (order_behind tick ws) ∙ rest_of_order (next_word order_word ws) tick ws refl)
    ∙ ap (λ ps. cause_told (first_misfit ps (w ∷ ws))) (sym (ticked (next_word order_word ws)))

pub misfits_explain : MisfitsExplain
misfits_explain w ws = (start_explained w ws, order_explained w ws)
