-- What an export writes and answers.
use Rattle.std.specs.Prelude.{ℕ, ◌-◌, Bool, cond, List, ◌++◌, length, drop, Ok, Err, Result, nat_le}
use Rattle.protocol.specs.declared.happening.Happening.{Happening}
use Rattle.graphml.specs.declared.answer.Exported.{Exported}
use Rattle.graphml.specs.declared.answer.Refusal.{Refusal}
use Rattle.graphml.specs.declared.answer.Refusal.TheVariants.{LogDiffers, ShortOutput}
use Rattle.graphml.specs.Elements.{Tag, spelling, run, opening, closing}
use Rattle.graphml.specs.Body.{body}
use Rattle.graphml.specs.Counts.{is_happening, is_edge}
use Rattle.markup.specs.Cut.{fitting_part, all_fits}
use Rattle.markup.specs.Forests.{Forest, render, count}

abbrev pub refusal_number : Refusal → ℕ
refusal_number LogDiffers = 13
refusal_number ShortOutput = 17

-- a forest in the frame
abbrev pub in_frame : Forest Tag → List ℕ
in_frame f = opening run ++ render spelling f ++ closing run

-- the bytes of the file's first lines and its last ones, which each file has
abbrev pub frame_size : ℕ
frame_size = 275

-- what an output of cap bytes has room for beside the frame
abbrev pub part : List Happening → ℕ → ℕ → Forest Tag
part log n cap = fitting_part spelling (cap - frame_size) (body log n)

-- out, with its first bytes overwritten by text
abbrev pub over : List ℕ → List ℕ → List ℕ
over text out = text ++ drop (length text) out

-- what the output out holds afterwards
abbrev pub run_bytes : List Happening → ℕ → List ℕ → List ℕ
run_bytes log n out =
    cond (nat_le frame_size (length out)) (over (in_frame (part log n (length out))) out) out

-- what is answered for a forest of which all was written, or not
abbrev pub summary : Forest Tag → (whole : Bool) → Exported
summary f whole = record {
  bytes = length (in_frame f);
  happenings = count is_happening f;
  edges = count is_edge f;
  whole = whole;
}

-- the answer at an output of cap bytes
abbrev pub run_answer : List Happening → ℕ → ℕ → Result Exported Refusal
run_answer log n cap =
    cond (nat_le frame_size cap)
    (Ok (summary (part log n cap) (all_fits spelling (cap - frame_size) (body log n))))
    (Err ShortOutput)
