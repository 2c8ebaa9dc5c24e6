use Rattle.std.proofs.Common.{ℕ, ◌≤◌, Bor, List, length, take, sym, ap, ◌∙◌, arith, length-append}
use Rattle.std.specs.Option.{option_map}
use Rattle.std.proofs.lemmas.List.{length-take}
use Rattle.text.specs.Lines.{line_with}
use Rattle.text.proofs.Lines.{onto}
use Rattle.schedule.specs.MisfitNotices.{met_words}
use Rattle.schedule.proofs.misfit_notice.met_line.Goals as goal

pub returns-in_default : goal.returns-in_default
returns-in_default c = onto _ c.new-line.ensures c.add.ensures (omega arith) ∙ ap (λ o. met_words (option_map (λ (w : Bor (List ℕ)). w.now) o)) (sym c.in_default.is)

pub returns : goal.returns
returns c =
    let w = c.in-Some.word.now in
    let short : length (take 40 w) ≤ 40 = let e = length-take 40 w in omega arith in
    let one = onto _ c.new-line.ensures c.add-2.ensures (omega arith) in
    let two = onto (take 40 w) one (c.add-3.ensures ∙ ap (λ t. line_with c.add-2.new.self t) c.shown.ensures) (omega arith) in
    onto _ two c.add-4.ensures (simp length-append (omega arith)) ∙ ap (λ o. met_words (option_map (λ (w : Bor (List ℕ)). w.now) o)) (sym c.in-Some.is)
