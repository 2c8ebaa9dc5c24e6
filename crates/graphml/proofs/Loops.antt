-- What is left to write gives what was to be written.
use Rattle.std.proofs.Common.{◌≡◌, ℕ, true, false, sym, ap, ◌∙◌, subst, arith}
use Rattle.graphml.specs.Elements.{spelling, Tag}
use Rattle.graphml.specs.Numbers.{Fits}
use Rattle.graphml.specs.Writer.{Writer, Sound, after_fitting}
use Rattle.graphml.proofs.Forests.{first_whole, first_cut}
use Rattle.markup.proofs.Filling.{room_left}
use Rattle.markup.proofs.Kept.{each_on, each_stop}
use Rattle.markup.specs.Cut.{all_fits, fitting_part}
use Rattle.markup.specs.Forests.{Forest, none, element, Each}

-- the writer s, with f still to write, ends as start does with all of it to write
pub record Left (s : Writer) (f : Forest Tag) (start : Writer) (all : Forest Tag) (k : ℕ) : Type 0 where
  pub draws : after_fitting s f ≡ after_fitting start all
  pub wholly : all_fits spelling s.out.room f ≡ all_fits spelling start.out.room all
  pub sound : Sound s k
  -- what is written is sound in its numbers, if what is left to write is
  pub numbers : Each Fits (fitting_part spelling s.out.room f) → Each Fits (fitting_part spelling start.out.room all)

pub left_as : {s start : Writer} {f all : Forest Tag} {k : ℕ} (g : Forest Tag) → f ≡ g → Left s f start all k → Left s g start all k
left_as {s} {start} {f} {all} {k} g e l = subst (λ x. Left s x start all k) e l

module _ {s start : Writer} {all : Forest Tag} {k : ℕ} where
  module _ (t : Tag) (i a : Forest Tag) (l : Left s (element t i a) start all k) where
    pub left_more : {v : Writer} → true ≡ all_fits spelling s.out.room (element t i none) → v ≡ after_fitting s (element t i none) → Sound v k → Each Fits (fitting_part spelling s.out.room (element t i none)) → Left v a start all k
    left_more {v} p e h n =
        let room = l.sound.fits in
        let y = first_whole s t i a (omega arith) (sym p) in
        record {
          draws = ap (λ x. after_fitting x a) e ∙ sym y.0 ∙ l.draws;
          wholly = ap (λ x. all_fits spelling x.out.room a) e ∙ sym y.1 ∙ l.wholly;
          sound = h;
          numbers = λ later. l.numbers (each_on spelling Fits s.out.room t i a (sym p) n (subst (λ x. Each Fits (fitting_part spelling x a)) (ap (λ (x : Writer). x.out.room) e ∙ room_left spelling s.out t i (sym p)) later));
        }

    pub left_stop : {v : Writer} → false ≡ all_fits spelling s.out.room (element t i none) → v ≡ after_fitting s (element t i none) → Each Fits (fitting_part spelling s.out.room (element t i none)) →
        (false ≡ all_fits spelling start.out.room all) × (v ≡ after_fitting start all) × Each Fits (fitting_part spelling start.out.room all)
    left_stop {v} p e n =
        let room = l.sound.fits in
        let x = first_cut s t i a (omega arith) (sym p) in
        (sym x.1 ∙ l.wholly, e ∙ sym x.0 ∙ l.draws, l.numbers (each_stop spelling Fits s.out.room t i a (sym p) n))
