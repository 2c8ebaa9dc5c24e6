-- What an output holds, and what writing does to it.
use Rattle.std.specs.Prelude.{ℕ, ◌+◌, ◌-◌, Bool, List, length, nat_le, if◌then◌else◌}
use Rattle.text.specs.Bytes.{fits, with_text_at}
use Rattle.markup.specs.declared.output.Output.{Output}
use Rattle.markup.specs.Forests.{Spelling, Forest, render}
use Rattle.markup.specs.Cut.{cost, fitting_part}

-- lent: which loan the bytes come from; room: the bytes that are neither written nor set aside for
-- the closings of what is open
pub record OutputState : Type 0 where
  pub lent : ℕ
  pub bytes : List ℕ
  pub at : ℕ
  pub room : ℕ

abbrev pub output_state : {C : Type 0} → Output C → OutputState
output_state o = record { lent = o.bytes.ghost_name; bytes = o.bytes.now; at = o.at; room = o.room }

-- with a text for which there was place
abbrev pub with_text : OutputState → List ℕ → OutputState
with_text h t = record h { bytes = with_text_at h.bytes h.at t; at = h.at + length t }

-- with a text, if there is place for it
abbrev pub with_text_that_fits : OutputState → List ℕ → OutputState
with_text_that_fits h t = if fits h.bytes h.at t then with_text h t else h

-- with so many bytes fewer of room
abbrev pub with_less_room : OutputState → ℕ → OutputState
with_less_room h n = record h { room = h.room - n }

-- whether an opening and so many bytes of closing fit
abbrev pub has_room : OutputState → List ℕ → ℕ → Bool
has_room h o closing = nat_le (length o + closing) h.room

-- with an opening, and its closing set aside
abbrev pub with_opening : OutputState → List ℕ → ℕ → OutputState
with_opening h o closing = with_text (with_less_room h (length o + closing)) o

-- with a forest for which there is room
abbrev pub with_forest : {T : Type 0} → Spelling T → OutputState → Forest T → OutputState
with_forest w h f =
    record h {
      bytes = with_text_at h.bytes h.at (render w f);
      at = h.at + length (render w f);
      room = h.room - cost w f;
    }

-- with what fits of a forest
abbrev pub with_part : {T : Type 0} → Spelling T → OutputState → Forest T → OutputState
with_part w h f = with_forest w h (fitting_part w h.room f)
