use Rattle.std.proofs.Common.{rules}
use Rattle.lf_ast.specs.Rules.{rule_tree}
use Rattle.lf_checks.specs.views.LabelCases.{IsOfLabel}
use Rattle.lf_checks.proofs.LabelCases.{of_labels}
use Rattle.lf_checks.proofs.Lists.{along_end, along_next}
use Rattle.lf_checks.proofs.rule_label.rule_label.Goals as goal

pub loop-label-preserved : goal.loop-label-preserved
loop-label-preserved c =
    along_next (IsOfLabel c.args.universe.now c.args.row.now) c.args.rule.now.labels c.loop-label.label-index c.label-item.result (search rules) (search rules) c.loop-label.found.items
    c.in_ok-more.more.items c.append.new.self.items (search rules) c.loop-label.invariant (search rules)

pub returns : goal.returns
returns c =
    of_labels c.args.universe.now c.args.row.now (rule_tree c.args.rule.now) (search rules) c.loop-label.found.items
    (along_end (IsOfLabel c.args.universe.now c.args.row.now) c.args.rule.now.labels c.loop-label.label-index (search rules) c.loop-label.found.items c.loop-label.invariant)
