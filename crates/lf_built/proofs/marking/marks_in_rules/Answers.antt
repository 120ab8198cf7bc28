use Rattle.std.proofs.Common.{map, arith}
use Rattle.lf_ast.specs.Rules.{RuleTree, rule_tree}
use Rattle.lf_ast.specs.Tree.{nodes}
use Rattle.lf_built.specs.views.Marking.{marks_at}
use Rattle.lf_built.proofs.OneMore.{one_image_more}
use Rattle.lf_built.proofs.marking.marks_in_rules.Goals as goal

pub loop-k-preserved : goal.loop-k-preserved
loop-k-preserved c =
    one_image_more rule_tree c.args.rules.now c.loop-k.k c.index-rules-k.result (omega (arith, c.loop-k-test.true)) c.index-rules-k.is (λ (r : RuleTree). map (marks_at c.args.names.now) (nodes r.expr))
    c.loop-k.all.items c.push.new.self.items c.in_ok-marks.marks c.loop-k.invariant c.in_ok-marks.ensures c.in_ok-push.ensures.items
