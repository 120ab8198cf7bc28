use Rattle.std.proofs.Common.{◌≡◌, ℕ, List, length, refl, subst, arith}
use Rattle.lf_ast.specs.Rules.{RuleTree, rule_tree, rule_trees}
use Rattle.lf_deps.proofs.RuleTrees.{tree_at, trees_count}
use Rattle.lf_open.specs.views.Marks.{AreMarksUpTo}
use Rattle.lf_open.proofs.MarkedNames.{one_more}
use Rattle.lf_open.proofs.marks.marks_of.Goals as goal

pub loop-k-preserved : goal.loop-k-preserved
loop-k-preserved c =
    let rules : List RuleTree = rule_trees c.args.rules.now in
    let at = tree_at c.args.rules.now c.loop-k.k c.get.result.now c.get.ensures.value in
    one_more rules c.args.chosen.now c.loop-k.k (rule_tree c.get.result.now) at _ refl c.loop-k.marks c.mark_if.new.marks c.loop-k.invariant c.mark_if.ensures

pub returns : goal.returns
returns c =
    let rules : List RuleTree = rule_trees c.args.rules.now in
    let n : c.loop-k.k ≡ length rules = omega (arith, c.loop-k-test.false, c.loop-k.auto.k-end, c.len-k-end.ensures, trees_count c.args.rules.now) in
    subst (λ (i : ℕ). AreMarksUpTo rules c.args.chosen.now i c.loop-k.marks) n c.loop-k.invariant
