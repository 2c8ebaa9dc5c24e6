-- A run as the steps that were taken, each a call with its answer.
use Rattle.std.specs.Prelude.{◌≡◌, ℕ, ◌+◌, Bool, cond, List, [], ◌∷◌, is_ok}
use Rattle.protocol.specs.declared.call.Call.{Call}
use Rattle.protocol.specs.declared.call.Call.TheVariants.{Tick, Deliver, Lose, Crash, Join, Leave}
use Rattle.protocol.specs.declared.call.Step.{Step}
use Rattle.protocol.specs.Rules.{Rules}
use Rattle.protocol.specs.State.{State}
use Rattle.protocol.specs.Answers.{number_told}
use Rattle.protocol.specs.Runs.{number, perform}

-- the call of a step, and the number that its answer tells
abbrev pub call_of : Step → Call
call_of x = x.call

abbrev pub answer_of : Step → ℕ
answer_of x = number_told x.answer

-- the steps lead from s to s': each answers its call's number and does what the call does
abbrev pub Rehearsed : Rules → State → List Step → State → Type 0
Rehearsed rules s [] s' = s' ≡ s
Rehearsed rules s (x ∷ xs) s' =
    (number_told x.answer ≡ number rules x.call s)
    × Rehearsed rules (perform rules x.call s) xs s'

-- what a call adds to the clock, if it was granted
abbrev pub adds : Call → Bool → ℕ
adds Tick granted = cond granted 1 0
adds (Deliver i leg) granted = 0
adds (Lose i leg) granted = 0
adds (Crash i) granted = 0
adds (Join i) granted = 0
adds (Leave i) granted = 0

-- the ticks among the steps that were granted: so many
abbrev pub granted_ticks : List Step → ℕ
granted_ticks [] = 0
granted_ticks (x ∷ xs) = adds x.call (is_ok x.answer) + granted_ticks xs
