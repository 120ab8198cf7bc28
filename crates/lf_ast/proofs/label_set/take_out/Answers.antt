use Rattle.std.proofs.Common.{rules}
use Rattle.std.proofs.lemmas.Fn.{filter_same}
use Rattle.lf_ast.proofs.LabelSets.{differs}
use Rattle.lf_ast.proofs.label_set.take_out.Goals as goal

pub returns : goal.returns
returns c = filter_same _ (differs c.args.name.now) _ (λ x b f' is. search rules) _ _ c.retain.ensures.filtered
