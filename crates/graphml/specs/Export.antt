-- What the export of a group and its log answers and writes.
use Rattle.std.specs.Prelude.{ℕ, cond, List, Err, Result}
use Rattle.protocol.specs.State.{State}
use Rattle.protocol.specs.Questions.{is_own_log}
use Rattle.graphml.specs.declared.answer.Exported.{Exported}
use Rattle.graphml.specs.declared.answer.Refusal.{Refusal}
use Rattle.graphml.specs.declared.answer.Refusal.TheVariants.{LogDiffers}
use Rattle.graphml.specs.Answer.{run_answer, run_bytes}

-- first whether the log is the group's own, then whether the output has room for the frame
abbrev pub export_answer : State → ℕ → ℕ → Result Exported Refusal
export_answer s n cap = cond (is_own_log s) (run_answer s.log n cap) (Err LogDiffers)

-- what the output then holds
abbrev pub export_bytes : State → ℕ → List ℕ → List ℕ
export_bytes s n out = cond (is_own_log s) (run_bytes s.log n out) out
