use Rattle.std.proofs.Common.{ℕ, ◌<◌, ◌≤◌, get_or}
use Rattle.protocol.specs.Party.{nobody}
use Rattle.protocol.specs.Quiet.{Rests}
use Rattle.group.proofs.dues.timer.Timer.parties_due.Given as goal

abbrev pub invariant-loop-party : goal.invariant-loop-party
invariant-loop-party l =
    (c : ℕ) → l.self.clock ≤ c → c < l.due → (k : ℕ) → k < l.party-index → Rests l.self.patience l.self.limits.tmin c (get_or l.parties k nobody)
