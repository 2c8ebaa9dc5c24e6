-- How long the parts of a notice are.
use Rattle.std.proofs.Common.{ℕ, ◌^◌, ◌<◌, ◌≤◌, Bool, true, false, length, decimal, arith, lit≤}
use Rattle.std.proofs.lemmas.Fmt.{length-decimal-le}
use Rattle.player.specs.Notices.{cut_line}

pub number_le : (n : ℕ) → n < 2 ^ 64 → length (decimal n) ≤ 20
number_le n h = length-decimal-le 20 n (omega arith) (omega arith) h

pub cut_le : (b : Bool) → length (cut_line b) ≤ 13
unfolding cut_line
cut_le true = lit≤ tt
cut_le false = lit≤ tt
