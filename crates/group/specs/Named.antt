-- Whom a call names.
use Rattle.std.specs.Prelude.{ℕ, Some, None, Option}
use Rattle.protocol.specs.declared.member.Member.{Member}

-- the number of a party, 0 for the root
abbrev pub number_of : Option Member → ℕ
number_of None = 0
number_of (Some m) = m.number
