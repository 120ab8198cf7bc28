use Rattle.std.proofs.Common.{◌≡◌, not, sym, ◌∙◌, ap, subst}
use Rattle.lf_ast.specs.Rules.{RuleTree, rule_tree, rule_trees}
use Rattle.std.proofs.lemmas.Bool.{not-true}
use Rattle.std.proofs.lemmas.Option.{IfSome_then, none-some}
use Rattle.lf_ast.specs.Labels.{Bytes}
use Rattle.lf_flow.specs.Raising.{joined}
use Rattle.lf_semantics.specs.ClassRows.{Sets}
use Rattle.lf_semantics.specs.Environments.{IsRow, Leq, recorded_row}
use Rattle.lf_semantics.specs.RowTable.{Environment, row_named}
use Rattle.lf_semantics.proofs.NormalizedRows.{recorded_row_is}
use Rattle.lf_deps.proofs.RuleTrees.{tree_at}
use Rattle.lf_fix.proofs.Rounds.{has_row, joined_tells, same_shape}
use Rattle.lf_fix.proofs.solving.raise.Goals as goal

pub raise-requires-clause-recorded : goal.raise-requires-clause-recorded
raise-requires-clause-recorded c none =
    let r : RuleTree = rule_tree c.get-rule.result.now in
    let env : Environment = c.args.env.now in
    let at = has_row c.args.universe.now c.requires.listing (rule_trees c.args.rules.now) env c.args.k r c.requires.of_rules (tree_at c.args.rules.now c.args.k c.get-rule.result.now c.get-rule.ensures.value) c.if-rule.false in
    none-some at.0 (sym none ∙ ap (λ (name : Bytes). row_named env name) c.as_str.ensures ∙ at.1)

pub raise-requires-clause-shape : goal.raise-requires-clause-shape
raise-requires-clause-shape c other is =
    let u = c.args.universe.now in
    let R : Sets → Type 0 = λ row. IsRow u row in
    let own = subst R (sym c.in_ok-row.ensures) (recorded_row_is u c.requires.listing c.args.env.now c.requires.of_rules.environment (rule_tree c.get-rule.result.now)) in
    same_shape u c.requires.listing (rule_trees c.args.rules.now) c.args.env.now c.as_str.result.now c.in_ok-row.row other c.requires.of_rules own is

pub recorded_row_with-requires-clause-scraped : goal.recorded_row_with-requires-clause-scraped
recorded_row_with-requires-clause-scraped c = IfSome_then c.args.scraped c.requires.scraped (λ row is. is c.args.env.now c.requires.of_rules)

pub returns : goal.returns
returns c =
    let u = c.args.universe.now in
    let r : RuleTree = rule_tree c.get-rule.result.now in
    let env : Environment = c.args.env.now in
    let row : Sets = c.in_ok-row.row in
    let same : row ≡ recorded_row u env r = c.in_ok-row.ensures in
    joined_tells u c.requires.listing (rule_trees c.args.rules.now) env c.raise.new.self c.args.k r c.raise.result c.requires.of_rules (tree_at c.args.rules.now c.args.k c.get-rule.result.now c.get-rule.ensures.value) c.if-rule.false
    (c.raise.ensures.joined ∙ ap (λ (name : Bytes). joined name row env) c.as_str.ensures ∙ ap (λ (x : Sets). joined r.name x env) same)
    (λ top is.
    let tells = c.raise.ensures.added top (ap (λ (name : Bytes). row_named env name) c.as_str.ensures ∙ is) in
    let U : Sets → Type 0 = λ x. Leq x top in
    (λ f. subst U same (tells.0 (ap not f)), λ under. not-true c.raise.result (tells.1 (subst U (sym same) under))))
    c.raise.ensures.same
