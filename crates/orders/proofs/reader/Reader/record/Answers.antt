use Rattle.std.proofs.Common.{◌≡◌, false, cond, take, drop, length, Ok, Err, sym, ap, ◌∙◌, arith}
use Rattle.std.proofs.lemmas.List.{take_rest, length-drop}
use Rattle.orders.specs.Reading.{is_whole}
use Rattle.orders.specs.declared.fault.ReadCause.TheVariants.{NotWhole}
use Rattle.orders.proofs.Records.{too_short, as_marked}
use Rattle.orders.proofs.reader.Reader.record.Goals as goal
use Rattle.orders.proofs.reader.Reader.record.Goals.{in_default-via-in-Some+else-starts_with, in_default-via-in_default}

pub returns-in_default : goal.returns-in_default
returns-in_default g c =
    let m = c.args.mark in
    let bs = c.args.self.now.bytes.now in
    let at = c.args.self.now.at in
    let n = g.row.N in
    let t : is_whole m n bs at ≡ false = elim c.in_default.branch [
      | in_default-via-in-Some+else-starts_with w ↦
          let f = w.in-Some.ensures.cases in
          as_marked m bs n at (omega arith) c.requires (omega arith) (omega (arith, f.enough, ap length (take_rest bs at), length-drop at bs))
          w.in-Some.record.now (f.same ∙ ap (λ z. take n z) (take_rest bs at)) ∙ sym w.starts_with.ensures.value ∙ w.if-starts_with.false
      | in_default-via-in_default w ↦
          too_short m bs n at (omega arith) c.requires (omega arith) (omega (arith, w.in_default.ensures.cases, ap length (take_rest bs at), length-drop at bs))
    ] in
    sym (ap (λ b. cond b (Ok (take n (drop at bs))) (Err NotWhole)) t)
