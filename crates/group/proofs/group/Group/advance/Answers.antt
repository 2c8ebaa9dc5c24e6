use Rattle.std.proofs.Common.{refl, ◌∙◌, arith}
use Rattle.slots.proofs.Growing.{extends_refl}
use Rattle.protocol.specs.Answers.{number_told}
use Rattle.group.specs.Does.{rules_by}
use Rattle.group.proofs.Towards.{handed_on, refused_first}
use Rattle.group.proofs.group.Group.advance.Goals as goal

pub returns-in_err-ask_tick : goal.returns-in_err-ask_tick
returns-in_err-ask_tick g c =
    let me = c.args.self.now in
    let handed = handed_on c.from_residual.result c.in_err-ask_tick.field-0.0 c.from_residual.ensures.1 in
    let l = c.args.log.now in
    let h = refused_first (rules_by (g.P.Pace.means me.pace) me.plan l) c.args.until me.table l (number_told c.from_residual.result) handed.1
    c.if-self-until.true (handed.0 ∙ c.in_err-ask_tick.ensures.number) handed.2 in
    record {
      stays = record { pace = refl; plan = refl; extends = extends_refl l };
      number = h.number;
      after = h.after;
      refused = λ j f. (refl, refl);
      granted = λ none. absurd (omega (arith, handed.2, none));
    }
