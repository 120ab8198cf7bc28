use Rattle.std.proofs.Common.{length, subst}
use Rattle.lf_report.specs.Numbers.{NameRulesBelow, labels_of}
use Rattle.lf_report.proofs.json.labels.push_labels.Goals as goal

pub push_said-requires-clause-rules : goal.push_said-requires-clause-rules
push_said-requires-clause-rules c = subst (λ v. NameRulesBelow (length c.args.report.now.rules) (labels_of v)) c.in-Some.is c.requires.rules
