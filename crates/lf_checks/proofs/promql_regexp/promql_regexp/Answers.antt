use Rattle.std.proofs.Common.{[], subst}
use Rattle.lf_ast.specs.Rules.{rule_tree}
use Rattle.lf_ast.specs.Tree.{tree}
use Rattle.lf_checks.specs.PromqlRegexp.{IsFound}
use Rattle.lf_checks.specs.views.Adding.{Adds}
use Rattle.lf_checks.specs.views.Patterns.{IsOfPart}
use Rattle.lf_checks.proofs.Added.{adds_all, adds_of_more}
use Rattle.lf_checks.proofs.Nodes.{of_each}
use Rattle.lf_checks.proofs.PatternLaws.{of_parts}
use Rattle.lf_checks.proofs.promql_regexp.promql_regexp.Goals as goal

pub loop-part-preserved : goal.loop-part-preserved
loop-part-preserved c =
    adds_of_more (λ x. IsOfPart (tree x.now)) c.args.parts.now c.loop-part.part-index c.part-item.result [] c.loop-part.found.items c.judge_part.new.found.items c.loop-part-test.true c.loop-part.invariant
    (subst (λ x. Adds (IsOfPart (tree x.now)) c.loop-part.found.items c.judge_part.new.found.items) c.part-item.is c.in_ok-judge_part.ensures)

pub returns : goal.returns
returns c =
    let r = rule_tree c.args.rule.now in
    adds_all (IsFound r) c.loop-part.found.items (of_parts r c.loop-part.found.items
    (of_each IsOfPart c.args.parts.now r.expr c.loop-part.part-index [] c.loop-part.found.items c.requires c.loop-part-test.false c.loop-part.invariant))
