use Rattle.std.proofs.Common.{sym, ◌∙◌, subst}
use Rattle.lf_laws.proofs.Slices.{one_at}
use Rattle.lf_ast.specs.Rules.{RuleTree, rule_tree, rule_trees}
use Rattle.lf_deps.proofs.RuleTrees.{tree_at}
use Rattle.lf_ast.specs.Tree.{nodes}
use Rattle.lf_built.specs.views.RuleRows.{IsRowOf}
use Rattle.lf_built.specs.views.Unsaid.{AreSought}
use Rattle.lf_built.proofs.row_making.RuleRow.by.Goals as goal

pub row_of-requires-clause-rows : goal.row_of-requires-clause-rows
row_of-requires-clause-rows c = c.requires.rows (rule_tree c.get-rule.result.now) (tree_at c.args.rules.now c.args.number c.get-rule.result.now c.get-rule.ensures.value)

pub returns : goal.returns
returns c = λ r at.
    let own : RuleTree = rule_tree c.get-rule.result.now in
    let P : RuleTree → Type 0 = λ t. IsRowOf c.args.universe.now c.args.env.now c.args.forks.now (rule_trees c.args.rules.now) t c.in_ok-row.row in
    let there = tree_at c.args.rules.now c.args.number c.get-rule.result.now c.get-rule.ensures.value in
    subst P (one_at (rule_trees c.args.rules.now) c.args.number own r there at) (record {
      parts = c.in_ok-row.ensures.parts;
      names = subst (AreSought c.args.universe.now (rule_trees c.args.rules.now) (nodes own.expr)) (sym c.in_ok-row.ensures.names) (c.in_ok-names.ensures (rule_trees c.args.rules.now) (c.recorded.ensures ∙ c.requires.sources.names));
      own = c.in_ok-row.ensures.own;
      recorded = c.in_ok-row.ensures.recorded;
    })
