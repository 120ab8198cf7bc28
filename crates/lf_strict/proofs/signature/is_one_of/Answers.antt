use Rattle.std.proofs.Common.{◌∙◌}
use Rattle.lf_strict.proofs.Filtered.{found_or_not}
use Rattle.lf_strict.proofs.signature.is_one_of.Goals as goal

pub returns : goal.returns
returns c = c.is_ok.ensures.value ∙ found_or_not c.args.sorted.now c.args.sought.now c.binary_search.result c.requires c.binary_search.ensures.bound c.binary_search.ensures.position
