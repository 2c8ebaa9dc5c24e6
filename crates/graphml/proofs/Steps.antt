-- One record more of the log, one party more of the group.
use Rattle.std.proofs.Common.{◌≡◌, ℕ, suc, ◌+◌, ◌-◌, ◌<◌, ◌≤◌, Bool, true, false, cond, List, length, get_or, drop, ap, ◌∙◌, arith}
use Rattle.std.proofs.lemmas.List.{at_drop_more}
use Rattle.protocol.specs.declared.happening.Happening.{Happening}
use Rattle.graphml.specs.Elements.{Tag}
use Rattle.graphml.specs.Body.{lines_of, edges_from, party_then, parties_from}
use Rattle.markup.specs.Forests.{Forest, none, element}

module _ (pick : Happening → Bool) (tag : ℕ → Happening → Tag) (k : ℕ) (hs : List Happening) (lt : k < length hs) (h : Happening) where
  abbrev rest : Forest Tag
  rest = lines_of pick tag (k + 1) (drop (k + 1) hs)

  step : {b : Bool} → pick (get_or hs k h) ≡ b → lines_of pick tag k (drop k hs) ≡ cond b (element (tag k (get_or hs k h)) none rest) rest
  step e = at_drop_more (lines_of pick tag k) hs k h lt ∙ ap (λ b. cond b (element (tag k (get_or hs k h)) none rest) rest) e

  pub picked : pick (get_or hs k h) ≡ true → lines_of pick tag k (drop k hs) ≡ element (tag k (get_or hs k h)) none rest
  picked e = step e

  pub passed : pick (get_or hs k h) ≡ false → lines_of pick tag k (drop k hs) ≡ rest
  passed e = step e

pub one_party : (hs : List Happening) (i n : ℕ) → i ≤ n → parties_from hs i (n + 1 - i) ≡ party_then hs i (parties_from hs (i + 1) (n + 1 - (i + 1)))
one_party hs i n h = let e : n + 1 - i ≡ suc (n + 1 - (i + 1)) = omega arith in ap (parties_from hs i) e

pub no_party : (hs : List Happening) (i n : ℕ) → n < i → parties_from hs i (n + 1 - i) ≡ edges_from 0 hs
no_party hs i n h = let e : n + 1 - i ≡ 0 = omega arith in ap (parties_from hs i) e
