use Rattle.std.proofs.Common.{[], subst}
use Rattle.lf_ast.specs.Rules.{rule_tree}
use Rattle.lf_ast.specs.Tree.{tree}
use Rattle.lf_checks.specs.RuleDependency.{IsFound}
use Rattle.lf_checks.specs.views.Adding.{Adds}
use Rattle.lf_checks.specs.views.Recorded.{IsOfSelector}
use Rattle.lf_checks.proofs.Added.{adds_all, adds_of_more}
use Rattle.lf_checks.proofs.Nodes.{of_each}
use Rattle.lf_checks.proofs.RecordedLaws.{of_rule}
use Rattle.lf_checks.proofs.rule_dependency.rule_dependency.Goals as goal

pub loop-part-preserved : goal.loop-part-preserved
loop-part-preserved c rules are =
    adds_of_more (λ x. IsOfSelector rules (tree x.now)) c.args.parts.now c.loop-part.part-index c.part-item.result [] c.loop-part.found.items c.judge_part.new.found.items c.loop-part-test.true (c.loop-part.invariant rules are)
    (subst (λ x. Adds (IsOfSelector rules (tree x.now)) c.loop-part.found.items c.judge_part.new.found.items) c.part-item.is (c.in_ok-judge_part.ensures rules are))

pub returns : goal.returns
returns c rules are =
    let r = rule_tree c.args.rule.now in
    adds_all (IsFound rules r) c.loop-part.found.items (of_rule rules r c.loop-part.found.items
    (of_each (IsOfSelector rules) c.args.parts.now r.expr c.loop-part.part-index [] c.loop-part.found.items c.requires.parts c.loop-part-test.false (c.loop-part.invariant rules are)))
