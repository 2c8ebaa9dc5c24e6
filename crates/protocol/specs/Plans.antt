-- What making a plan answers.
use Rattle.std.specs.Prelude.{◌≡◌, ℕ, cond, ◌&&◌, Ok, Err, Result, nat_le}
use Rattle.protocol.specs.declared.kind.GroupKind.{GroupKind}
use Rattle.protocol.specs.declared.plan.Plan.{Plan}
use Rattle.protocol.specs.declared.plan.make.BadPartyCount.{BadPartyCount}

-- 5: is the number of parties 1 to 32?
abbrev pub parties_no : ℕ → ℕ
parties_no n = cond (nat_le 1 n && nat_le n 32) 0 5

abbrev pub bad_count_number : BadPartyCount → ℕ
bad_count_number e = 5

-- the plan of that kind and number of parties where the question is answered yes,
-- otherwise the refusal of its number
abbrev pub Planned : GroupKind → ℕ → Result Plan BadPartyCount → Type 0
Planned kind n (Ok plan) = (parties_no n ≡ 0) × (plan.kind ≡ kind) × (plan.n ≡ n)
Planned kind n (Err e) = parties_no n ≡ bad_count_number e
