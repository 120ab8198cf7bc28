use Rattle.std.proofs.Common.{◌∷◌, ◌++◌, [], ℕ, List, take, sym, subst, arith}
use Rattle.std.specs.List.{AllZip}
use Rattle.std.proofs.lemmas.List.{take_all}
use Rattle.lf_laws.proofs.Slices.{some_at, zip_push}
use Rattle.std.proofs.lemmas.Option.{get_or_from_slice_get}
use Rattle.lf_ast.specs.Rules.{RuleTree, rule_tree, rule_trees}
use Rattle.lf_ast.specs.declared.rule.Rule.{Rule}
use Rattle.lf_deps.proofs.RuleTrees.{tree_at, trees_more}
use Rattle.lf_built.specs.declared.row_making.RuleRow.{RuleRow}
use Rattle.lf_built.specs.views.RuleRows.{IsRowOf}
use Rattle.lf_built.proofs.row_making.rule_rows.Goals as goal

pub loop-k-preserved : goal.loop-k-preserved
loop-k-preserved c =
    let u = c.args.universe.now in
    let env = c.args.env.now in
    let forks = c.args.forks.now in
    let rules : List Rule = c.args.rules.now in
    let k : ℕ = c.loop-k.k in
    let at = some_at rules k (omega (arith, c.loop-k-test.true)) in
    let rule : Rule = at.0 in
    let Is : RuleTree → RuleRow → Type 0 = IsRowOf u env forks (rule_trees rules) in
    let told : Is (rule_tree rule) c.in_ok-row.row = c.in_ok-row.ensures (rule_tree rule) (tree_at rules k rule at.1) in
    let P : List RuleTree → Type 0 = λ trees. AllZip Is trees c.push.new.self in
    let Q : List RuleRow → Type 0 = λ rows. AllZip Is (rule_trees (take k rules) ++ rule_tree rule ∷ []) rows in
    subst P (trees_more rules k rule (omega (arith, c.loop-k-test.true)) (sym (get_or_from_slice_get rules k rule rule at.1)))
    (subst Q (sym c.in_ok-push.ensures.ok) (zip_push Is (rule_trees (take k rules)) c.loop-k.rows (rule_tree rule) c.in_ok-row.row c.loop-k.invariant told))

pub returns : goal.returns
returns c =
    let P : List Rule → Type 0 = λ rules. AllZip (IsRowOf c.args.universe.now c.args.env.now c.args.forks.now (rule_trees c.args.rules.now)) (rule_trees rules) c.loop-k.rows in
    subst P (take_all c.loop-k.k c.args.rules.now (omega (arith, c.loop-k-test.false))) c.loop-k.invariant
