use Rattle.std.proofs.Common.{◌≡◌, ◌+◌, ◌^◌, ◌<◌, ◌++◌, map, length, drop, decimal}
use Rattle.std.specs.Int.Digits.{digits_of}
use Rattle.text.proofs.decimal.digits.Given as goal

abbrev pub invariant-loop-rest : goal.invariant-loop-rest
invariant-loop-rest l = (l.first < 20) × (l.rest < 10 ^ l.first) × (length l.bytes ≡ 20) × (map (λ d. 48 + d) (digits_of 10 l.rest) ++ drop l.first l.bytes ≡ decimal l.n)

abbrev pub decreases-loop-rest : goal.decreases-loop-rest
decreases-loop-rest l = l.rest
