use Rattle.std.proofs.Common.{◌≡◌, codes, rules, arith}
use Rattle.std.proofs.lemmas.Slice.Eq.{text_from_reads}
use Rattle.commandline.specs.Requests.{option}
use Rattle.commandline.proofs.request.option.Goals as goal

pub returns-in-45 : goal.returns-in-45
unfolding option
returns-in-45 c =
    let word : c.args.word.now ≡ codes "--help" = text_from_reads c.args.word.now (codes "--help") (omega arith) (search rules) in
    rw word

pub returns-in-45-3 : goal.returns-in-45-3
unfolding option
returns-in-45-3 c =
    let word : c.args.word.now ≡ codes "--demo" = text_from_reads c.args.word.now (codes "--demo") (omega arith) (search rules) in
    rw word
