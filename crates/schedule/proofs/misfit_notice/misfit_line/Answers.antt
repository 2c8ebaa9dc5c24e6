use Rattle.std.proofs.Common.{ap, ◌∙◌, arith, length-append}
use Rattle.std.specs.Option.{option_map}
use Rattle.text.specs.Lines.{line_with}
use Rattle.text.proofs.Lines.{onto}
use Rattle.schedule.specs.MisfitNotices.{place_words, misfit_line}
use Rattle.schedule.proofs.Lengths.{met_long, place_long}
use Rattle.schedule.proofs.misfit_notice.misfit_line.Goals as goal

pub returns : goal.returns
unfolding misfit_line
returns c =
    let a = met_long (option_map (λ w. w.now) c.args.misfit.word) in
    let b = place_long c.args.misfit.place in
    let two = onto (place_words c.args.misfit.place) c.met_line-line.ensures (c.add.ensures ∙ ap (λ t. line_with c.met_line-line.result t) c.place_words.ensures) (omega arith) in
    onto _ two c.add-2.ensures (simp length-append (omega arith))
