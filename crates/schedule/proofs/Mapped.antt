-- The numbers of the lines with words, one line more.
use Rattle.std.proofs.Common.{◌≡◌, ℕ, ◌+◌, true, false, List, [], ◌∷◌}
use Rattle.schedule.specs.Cuts.{line_words}
use Rattle.schedule.specs.Maps.{has_words, worded}

module _ (n n' : ℕ) (ls ls' : List (List ℕ)) (l : List ℕ) (e : ls ≡ l ∷ ls') (c : n' ≡ n + 1) where
  pub one_record : has_words (line_words l) ≡ true → worded n ls ≡ n' ∷ worded n' ls'
  unfolding worded
  one_record h = rw (e, c, h)

  pub one_passed : has_words (line_words l) ≡ false → worded n ls ≡ worded n' ls'
  unfolding worded
  one_passed h = rw (e, c, h)

pub no_record : (n : ℕ) (ls : List (List ℕ)) → ls ≡ [] → worded n ls ≡ []
unfolding worded
no_record n ls e = rw e
