-- The number of each refusal, and an answer by the first question that is answered no.
use Rattle.std.specs.Prelude.{◌≡◌, ℕ, Ok, Err, Result}
use Rattle.pace.specs.declared.refusal.Refusal.{Refusal}
use Rattle.pace.specs.declared.refusal.Refusal.TheVariants.{BadLimits, BadCount, BadFirst, BadWait}

abbrev pub pace_refusal_number : Refusal → ℕ
pace_refusal_number BadLimits = 1
pace_refusal_number BadCount = 2
pace_refusal_number BadFirst = 3
pace_refusal_number BadWait = 4

-- n is the number of the first question answered no, or 0 where all are answered yes; no refusal
-- has number 0. A granted call leaves what `Granted` says of its result, a refused one what `Kept`
-- says.
abbrev pub Answered : {T : Type 0} → ℕ → Result T Refusal → (T → Type 0) → Type 0 → Type 0
Answered n (Ok x) Granted Kept = (n ≡ 0) × Granted x
Answered n (Err e) Granted Kept = (n ≡ pace_refusal_number e) × Kept

-- what a refused call keeps that was handed nothing to change
abbrev pub NothingToKeep : Type 0
NothingToKeep = Unit {0}
