use Rattle.std.proofs.Common.{◌∙◌, ap}
use Rattle.std.specs.FinMap.{from_sorted}
use Rattle.lf_ast.proofs.LabelSets.{none_is_empty}
use Rattle.lf_ast.proofs.label_set.LabelSet.new.Goals as goal

pub returns : goal.returns
returns c = ap from_sorted c.new.ensures.items ∙ none_is_empty
