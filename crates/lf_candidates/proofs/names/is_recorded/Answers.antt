use Rattle.lf_candidates.proofs.Recorded.{recorded_test}
use Rattle.lf_candidates.proofs.names.is_recorded.Goals as goal

pub returns : goal.returns
returns c = λ rules are. recorded_test c.args.name.now rules c.args.recorded.now c.place.result c.len.result are c.place.ensures.place c.len.ensures.count
