use Rattle.std.proofs.Common.{◌≡◌, ◌+◌, ◌*◌, true, false, cond, leb, length, Some, None, sym, ap, ◌∙◌}
use Rattle.std.proofs.lemmas.Bool.{leb-true}
use Rattle.orders.specs.Writing.{bytes_of_file}
use Rattle.schedule.specs.Composing.{with_file}
use Rattle.schedule.proofs.Lengths.{file_long}
use Rattle.schedule.proofs.Filing.{whole_file}
use Rattle.schedule.proofs.write.write.Goals as goal

pub returns-then-not-has_room : goal.returns-then-not-has_room
returns-then-not-has_room c =
    let file = bytes_of_file c.args.start c.args.orders.now in
    let out = c.args.out.now in
    let t : leb (length file) (length out) ≡ false =
    ap (λ n. leb n (length out)) (file_long c.args.start c.args.orders.now) ∙ sym c.if-not-has_room.ensures in
    record {
      answer = sym (ap (λ b. cond b (Some (length file)) None) t);
      after = sym (ap (λ b. cond b (with_file file out) out) t);
    }

pub returns : goal.returns
returns c =
    let file = bytes_of_file c.args.start c.args.orders.now in
    let out = c.args.out.now in
    let h : leb (14 + 9 * length c.args.orders.now) (length out) ≡ true = sym c.if-not-has_room.ensures in
    let t : leb (length file) (length out) ≡ true = ap (λ n. leb n (length out)) (file_long c.args.start c.args.orders.now) ∙ h in
    let w =
    whole_file out c.put-at.new.out c.write_orders.new.out c.put-at.result c.write_orders.result c.args.start c.args.orders.now c.to_bytes.result
    c.to_bytes.ensures.written (leb-true _ _ h) c.put-at.ensures.after c.put-at.ensures.end c.write_orders.ensures.after c.write_orders.ensures.end in
    record {
      answer = ap Some w.1 ∙ sym (ap (λ b. cond b (Some (length file)) None) t);
      after = w.0 ∙ sym (ap (λ b. cond b (with_file file out) out) t);
    }
