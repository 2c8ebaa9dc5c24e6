use Rattle.std.proofs.Common.{◌≡◌, ◌++◌, length, Err, sym, ap, ◌∙◌, append-nil, arith}
use Rattle.player.specs.declared.play.PlayStop.{PlayStop}
use Rattle.player.specs.Playing.{fault_number, stop_told}
use Rattle.player.specs.Notices.{cut_line, stopped_line, line_of, stop_line}
use Rattle.player.proofs.Obeying.{some_fault}
use Rattle.player.proofs.Lengths.{cut_le}
use Rattle.player.proofs.notices.told.Goals as goal

-- a stop has a line, since no refusal has number 0
stopped : (x : PlayStop) → stopped_line x.order (fault_number x.fault) ≡ stop_line (stop_told (Err x))
stopped x = let k = some_fault x.fault in ap (stopped_line x.order) k.1 ∙ sym (ap (λ n. line_of n x.order) k.1)

pub tell_stop-requires : goal.tell_stop-requires
tell_stop-requires c = let h = cut_le c.args.file.cut in let e = ap length c.told_cut-lines.ensures in omega arith

pub returns-in-Err : goal.returns-in-Err
returns-in-Err c =
    let x = c.in-Err.stop in
    c.tell_stop.ensures ∙ ap (λ t. t ++ stopped_line x.order (fault_number x.fault)) c.told_cut-lines.ensures
    ∙ ap (λ t. cut_line c.args.file.cut ++ t) (stopped x)
    ∙ ap (λ r. cut_line c.args.file.cut ++ stop_line (stop_told r)) (sym c.in-Err.is)

pub returns-in_default : goal.returns-in_default
returns-in_default c =
    c.told_cut-lines.ensures ∙ sym (append-nil (cut_line c.args.file.cut)) ∙ ap (λ r. cut_line c.args.file.cut ++ stop_line (stop_told r)) (sym c.in_default.is)
