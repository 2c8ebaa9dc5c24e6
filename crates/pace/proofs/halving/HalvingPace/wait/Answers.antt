use Rattle.std.proofs.Common.{rules, tests}
use Rattle.std.proofs.lemmas.Option.{slice_get_past}
use Rattle.pace.proofs.HalvingPace.{nth_halving}
use Rattle.pace.proofs.halving.HalvingPace.wait.Goals as goal

pub returns : goal.returns
returns c = search (rules, tests, slice_get_past, nth_halving c.args.self.now.limits c.args.k)
