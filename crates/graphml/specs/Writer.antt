-- What the writer holds, and what writing does to it.
use Rattle.std.specs.Prelude.{ℕ, ◌+◌, ◌≤◌, Bool, List, length}
use Rattle.markup.specs.Forests.{Forest, Each, count}
use Rattle.markup.specs.Cut.{fitting_part, all_fits}
use Rattle.markup.specs.Held.{OutputState, output_state, with_text, with_opening, with_forest}
use Rattle.markup.specs.declared.output.Output.{Output}
use Rattle.graphml.specs.declared.output.Counts.{Counts}
use Rattle.graphml.specs.Elements.{Tag, spelling}
use Rattle.graphml.specs.Counts.{is_happening, is_edge}
use Rattle.graphml.specs.Numbers.{Fits}

pub record Writer : Type 0 where
  pub out : OutputState
  pub happenings : ℕ
  pub edges : ℕ

abbrev pub writer : Output Counts → Writer
writer o = record { out = output_state o; happenings = o.counts.happenings; edges = o.counts.edges }

-- so many bytes are set aside for closings; each counted line has at least a byte
pub record Sound (o : Writer) (closings : ℕ) : Type 0 where
  pub fits : o.out.at + o.out.room + closings ≤ length o.out.bytes
  pub few : o.happenings + o.edges ≤ o.out.at

-- after a text for which there was place
abbrev pub after_text : Writer → List ℕ → Writer
after_text s t = record s { out = with_text s.out t }

-- after an opening, with its closing set aside
abbrev pub after_opening : Writer → List ℕ → ℕ → Writer
after_opening s o closing = record s { out = with_opening s.out o closing }

-- after a forest for which there is room
abbrev pub after_forest : Writer → Forest Tag → Writer
after_forest s f = record {
  out = with_forest spelling s.out f;
  happenings = s.happenings + count is_happening f;
  edges = s.edges + count is_edge f;
}

-- after what fits of a forest
abbrev pub after_fitting : Writer → Forest Tag → Writer
after_fitting s f = after_forest s (fitting_part spelling s.out.room f)

-- whether all of a forest fits
abbrev pub all_fits_in : Writer → Forest Tag → Bool
all_fits_in s f = all_fits spelling s.out.room f

-- the numbers in what fits of a forest are such as its lines can hold
abbrev pub NumbersFit : Writer → Forest Tag → Type 0
NumbersFit s f = Each Fits (fitting_part spelling s.out.room f)
