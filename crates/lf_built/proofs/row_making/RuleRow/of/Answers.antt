use Rattle.std.proofs.Common.{◌≡◌, ◌∙◌, map, ap, sym, subst}
use Rattle.lf_laws.proofs.Slices.{one_at}
use Rattle.lf_ast.specs.Rules.{RuleTree, rule_tree, rule_trees}
use Rattle.lf_ast.specs.Tree.{nodes}
use Rattle.lf_deps.proofs.RuleTrees.{tree_at}
use Rattle.lf_semantics.specs.RowTable.{row_of}
use Rattle.lf_built.proofs.row_making.RuleRow.of.Goals as goal

pub by-requires-clause-rows : goal.by-requires-clause-rows
by-requires-clause-rows c r at =
    let own : RuleTree = rule_tree c.get-rule.result.now in
    let there = tree_at c.args.rules.now c.args.number c.get-rule.result.now c.get-rule.ensures.value in
    let P : RuleTree → Type 0 = λ t. c.as_slice-rows.result.now ≡ map (row_of c.args.universe.now c.args.env.now) (nodes t.expr) in
    subst P (one_at (rule_trees c.args.rules.now) c.args.number own r there at) (c.as_slice-rows.ensures.value ∙ c.in_ok-rows.ensures)
