use Rattle.std.proofs.Common.{◌≡◌, ℕ, ◌+◌, ◌*◌, ◌≤◌, sym, ◌∙◌, subst, arith}
use Rattle.group.proofs.Silence.{rests_by, nobody_on_roll}
use Rattle.group.proofs.dues.idle.idle_rounds.Goals as goal

pub returns-clause-idle : goal.returns-clause-idle
returns-clause-idle g c some =
    let m = g.P.Pace.means c.args.pace.now in
    let plan = c.args.plan.now in
    let t = c.args.table.now in
    let timer = c.at.ensures in
    let rounds = c.whole_rounds.result in
    let same : c.tmax.result ≡ m.tmax = c.tmax.ensures ∙ c.limits.ensures.tmax in
    let low = subst (λ (w : ℕ). t.clock + rounds * w ≤ c.min-end.result) same (c.whole_rounds.ensures.fits some) in
    record {
      ends = cc (c.is_round_over.ensures, c.if-not-is_round_over.false);
      off = nobody_on_roll plan t (sym c.is_anybody_on_roll.ensures ∙ c.if-is_anybody_on_roll.false);
      rest = λ x from before.
          rests_by m plan t _ _ x timer.patience timer.tmin
          (rw c.members.ensures at (c.parties_due-parties.ensures x (omega (arith, from, timer.clock)) (omega (arith, before, low))));
    }
