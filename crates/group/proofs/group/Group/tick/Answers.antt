use Rattle.std.proofs.Common.{◌<◌, refl, ◌∙◌, arith}
use Rattle.std.proofs.lemmas.Bool.Decides.{nat_tests}
use Rattle.slots.proofs.Growing.{extends_refl}
use Rattle.protocol.specs.Answers.{number_told}
use Rattle.protocol.specs.Views.{state_of}
use Rattle.protocol.proofs.Quiet.{quiet_later}
use Rattle.group.specs.Does.{rules_by}
use Rattle.group.proofs.Quietly.{sane_later, refused_quietly, counted_quietly}
use Rattle.group.proofs.Safe.{sane_at, sane_ticked}
use Rattle.group.proofs.Towards.{handed_on}
use Rattle.group.proofs.group.Group.tick.Goals as goal

pub returns-in_err-ask_quiet_tick : goal.returns-in_err-ask_quiet_tick
returns-in_err-ask_quiet_tick g c =
    let me = c.args.self.now in
    let l = c.args.log.now in
    let handed = handed_on c.from_residual.result c.in_err-ask_quiet_tick.field-0.0 c.from_residual.ensures.1 in
    let h = refused_quietly (g.P.Pace.means me.pace) me.plan me.table l me.quiet_until c.if-self.true me.quiet
    (number_told c.from_residual.result) handed.1 (handed.0 ∙ c.in_err-ask_quiet_tick.ensures.number) handed.2 in
    record { stays = record { pace = refl; plan = refl; extends = extends_refl l }; number = h.number; after = h.after }

pub invariant_of-self-then-self : goal.invariant_of-self-then-self
invariant_of-self-then-self g c =
    let me = c.args.self.now in
    let m = g.P.Pace.means me.pace in
    record {
      sane = sane_later m me.plan me.table me.quiet_until c.if-self.true me.quiet me.sane;
      quiet = quiet_later m me.plan me.table me.quiet_until c.if-self.true me.quiet;
    }

pub invariant_of-self-else-self : goal.invariant_of-self-else-self
invariant_of-self-else-self g c =
    let me = c.args.self.now in
    let early : me.table.clock < 4000000000 = let asked = c.in_ok-ask_tick.ensures.number in grind (arith, nat_tests) in
    let after = sane_at c.do_tick.new.table c.do_tick.new.log _ c.do_tick.ensures.after in
    record {
      sane = after (sane_ticked (rules_by (g.P.Pace.means me.pace) me.plan c.args.log.now) (g.met.P.Pace.lawful me.pace) (state_of me.table c.args.log.now) early me.sane);
      quiet = c.next_due-self.ensures.until;
    }

pub returns-in_ok-ask_quiet_tick : goal.returns-in_ok-ask_quiet_tick
returns-in_ok-ask_quiet_tick g c =
    let me = c.args.self.now in
    let l = c.args.log.now in
    let h = counted_quietly (g.P.Pace.means me.pace) me.plan me.table l me.quiet_until c.if-self.true me.quiet c.in_ok-ask_quiet_tick.ensures.number in
    record { stays = record { pace = refl; plan = refl; extends = extends_refl l }; number = h.number; after = h.after }
