-- The log of a run is its group's own.
use Rattle.std.proofs.Common.{Bool, ◌<◌, ◌∙◌, ◌≡◌, ℕ, ◌-◌, ◌≤◌, true, ◌&&◌, eqb, leb, List, [], ◌∷◌, length, sym, arith}
use Rattle.std.proofs.lemmas.List.{get_or-map}
use Rattle.std.proofs.lemmas.Bool.Decides.{nat_tests}
use Rattle.slots.specs.Slots.{last_time}
use Rattle.protocol.specs.declared.happening.Happening.{Happening}
use Rattle.std.specs.List.Sorted.{IsNonDecreasingBy}
use Rattle.protocol.specs.Beats.{nothing, happening_at}
use Rattle.protocol.specs.Rules.{Rules}
use Rattle.protocol.specs.State.{State}
use Rattle.protocol.specs.Order.{InOrder, LogInOrder, TellsOwnLog}
use Rattle.protocol.specs.Questions.{tick_of, is_own_log}

last_not_later : (c : ℕ) (log : List Happening) → InOrder c log → last_time tick_of log ≤ c
last_not_later c [] o = omega arith
last_not_later c (x ∷ xs) o =
    omega (arith, get_or-map tick_of (x ∷ xs) (length (x ∷ xs) - 1) nothing 0 (omega arith), o.none_later (length (x ∷ xs) - 1) (omega arith))

both : (a b x y : ℕ) → a ≡ b → x ≤ y → (eqb a b && leb x y) ≡ true
both a b x y e le = grind (arith, nat_tests)

-- a log in order, whose records the group has counted, is its own
pub owns : (s : State) → InOrder s.table.clock s.log → s.table.logged ≡ length s.log → is_own_log s ≡ true
owns s o e = both (length s.log) s.table.logged (last_time tick_of s.log) s.table.clock (sym e) (last_not_later s.table.clock s.log o)

pub own_log : (rules : Rules) (s : State) → LogInOrder rules s → is_own_log s ≡ true
own_log rules s h = owns s h.in_order h.counted

latest : (log : List Happening) (k : ℕ) → k < length log → IsNonDecreasingBy tick_of log → (happening_at log k).tick ≤ last_time tick_of log
latest log k h rises =
    omega (arith, get_or-map tick_of log (length log - 1) nothing 0 (omega arith), rises k (length log - 1) nothing (omega arith) (omega arith))

counts : (a b x y : ℕ) → (eqb a b && leb x y) ≡ true → a ≡ b
counts a b x y e = grind (arith, nat_tests)

reaches : (a b x y : ℕ) → (eqb a b && leb x y) ≡ true → x ≤ y
reaches a b x y e = grind (arith, nat_tests)

pub tells_own : (answer : Bool) (s : State) → answer ≡ is_own_log s → TellsOwnLog answer s
tells_own answer s e rises =
    let last = last_time tick_of s.log in (
      λ yes. record {
        counted = counts (length s.log) s.table.logged last s.table.clock (sym e ∙ yes);
        none_later = λ k h. omega (arith, latest s.log k h rises, reaches (length s.log) s.table.logged last s.table.clock (sym e ∙ yes));
      },
      λ own. e ∙ owns s (record { rises = rises; none_later = own.none_later }) (sym own.counted),
    )
