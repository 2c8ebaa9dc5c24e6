-- Looking for a misfit, one line or one place more.
use Rattle.std.proofs.Common.{drop, ◌≡◌, ℕ, ◌+◌, Bool, true, false, ◌||◌, List, [], ◌∷◌, Some, None, Option, Bor, MatchOption, refl, eqb, eq-eqb, ne_eqb, sym, ap, ◌∙◌}
use Rattle.std.specs.Option.{option_map}
use Rattle.schedule.specs.declared.complaint.Cause.{Cause}
use Rattle.schedule.specs.declared.place.Place.{Place}
use Rattle.schedule.specs.Cuts.{line_words}
use Rattle.schedule.specs.Maps.{has_words}
use Rattle.schedule.specs.Places.{fault}
use Rattle.schedule.specs.Misfits.{first_word, first_misfit, line_misfit, misfit_at}

module _ (m n n' : ℕ) (b : Bool) (ls ls' : List (List ℕ)) (l : List ℕ) (e : ls ≡ l ∷ ls') (c : n' ≡ n + 1) where
  pub line_reached : n' ≡ m → misfit_at m b n ls ≡ line_misfit b (line_words l)
  unfolding misfit_at
  line_reached h = let t = ap (λ k. eqb k m) (sym c) ∙ eq-eqb n' m h in rw (e, t) refl

  pub line_passed : (n' ≡ m → ⊥) → misfit_at m b n ls ≡ misfit_at m (b || has_words (line_words l)) n' ls'
  unfolding misfit_at
  line_passed h = let t = ap (λ k. eqb k m) (sym c) ∙ ne_eqb n' m h in rw (e, t, c) refl

pub or_false : (b : Bool) → b ≡ false → (x y : Bool) → x ≡ y → (b || y) ≡ x
or_false b h x y k = rw (h, k) refl

pub or_true : (b : Bool) → b ≡ true → (y : Bool) → (b || y) ≡ b
or_true b h y = rw h refl

pub no_line_left : (m : ℕ) (b : Bool) (n : ℕ) (ls : List (List ℕ)) → ls ≡ [] → misfit_at m b n ls ≡ None
unfolding misfit_at
no_line_left m b n ls e = rw e refl

module _ (p : Place) (ps ps' : List Place) (ws : List (List ℕ)) (e : ps ≡ p ∷ ps') where
  pub found_misfit : (w : Option (List ℕ)) (c : Cause) → w ≡ first_word ws → fault p w ≡ Some c → first_misfit ps ws ≡ Some record { word = w; place = p; cause = c }
  unfolding first_misfit
  found_misfit w c h k = let t = ap (fault p) (sym h) ∙ k in rw (e, t, h) refl

  pub passed_place : (w : Option (List ℕ)) → w ≡ first_word ws → fault p w ≡ None → first_misfit ps ws ≡ first_misfit ps' (drop 1 ws)
  unfolding first_misfit
  passed_place w h k = let t = ap (fault p) (sym h) ∙ k in rw (e, t) refl

pub no_place : (ps : List Place) (ws : List (List ℕ)) → ps ≡ [] → first_misfit ps ws ≡ None
unfolding first_misfit
no_place ps ws e = rw e refl

-- what is next of the words, and what is left of them
pub word_taken : (r : Option (Bor (List ℕ))) (ws ws' : List (List ℕ)) → MatchOption r ((ws ≡ []) × (ws' ≡ [])) (λ w. ws ≡ w.now ∷ ws') →
    (option_map (λ (w : Bor (List ℕ)). w.now) r ≡ first_word ws) × (drop 1 ws ≡ ws')
word_taken None ws ws' h = (sym (ap first_word h.0), ap (drop 1) h.0 ∙ sym h.1)
word_taken (Some w) ws ws' h = (sym (ap first_word h), ap (drop 1) h)
