use Rattle.std.proofs.Common.{length, sym, ◌∙◌, ap}
use Rattle.std.specs.FinMap.{len-entries}
use Rattle.lf_ast.proofs.label_set.LabelSet.len.Goals as goal

pub returns-clause-value : goal.returns-clause-value
returns-clause-value c = ap length c.entries.ensures.value ∙ sym (len-entries c.args.self.now)
