use Rattle.std.proofs.Common.{◌⊎◌, List}
use Rattle.std.proofs.lemmas.Result.{IfOk-weaker}
use Rattle.std.specs.Prelude.{◌≡◌, ◌++◌}
use Rattle.lf_ast.specs.Rules.{rule_tree}
use Rattle.lf_ast.specs.declared.verdict.Finding.{Finding as Row}
use Rattle.lf_checks.specs.AlertComparison as alert_comparison
use Rattle.lf_checks.specs.AlertTemplate as alert_template
use Rattle.lf_checks.specs.ExprEmpty as expr_empty
use Rattle.lf_checks.specs.ExprType as expr_type
use Rattle.lf_checks.specs.Finding.{Finding}
use Rattle.lf_checks.specs.RuleLabel as rule_label
use Rattle.lf_checks.specs.views.Checked.{IsOfRule}
use Rattle.lf_checks.specs.views.Shown.{ListsAlone}
use Rattle.lf_checks.proofs.Lists.{alone_both}
use Rattle.lf_checks.proofs.checker.of_rule.Goals as goal

pub returns : goal.returns
returns c =
    let u = c.args.universe.now in
    let row = c.args.row.now in
    let r = rule_tree c.args.rule.now in
    let A : Finding → Type 0 = alert_comparison.IsFound r in
    let B : Finding → Type 0 = alert_template.IsFound u row r in
    let C : Finding → Type 0 = expr_empty.IsFound row r in
    let D : Finding → Type 0 = expr_type.IsFound r in
    let E : Finding → Type 0 = rule_label.IsFound u row r in
    let two : List Row = c.in_ok-two.two.items in
    let three : List Row = c.in_ok-three.three.items in
    let four : List Row = c.in_ok-four.four.items in
    let more : List Row = c.in_ok-labels.labels.items in
    let ab = alone_both A B c.in_ok-comparisons.comparisons.items c.in_ok-templates.templates.items two c.in_ok-comparisons.ensures c.in_ok-templates.ensures c.in_ok-two.ensures in
    let abc = alone_both (λ f. A f ⊎ B f) C two c.in_ok-empty.empty.items three ab c.in_ok-empty.ensures c.in_ok-three.ensures in
    let abcd = alone_both (λ f. (A f ⊎ B f) ⊎ C f) D three c.in_ok-types.types.items four abc c.in_ok-types.ensures c.in_ok-four.ensures in
    IfOk-weaker c.both-4.result (λ all. all.items ≡ four ++ more) (λ all. ListsAlone (IsOfRule u row r) all.items)
    (λ all e. alone_both (λ f. ((A f ⊎ B f) ⊎ C f) ⊎ D f) E four more all.items abcd c.in_ok-labels.ensures e) c.both-4.ensures
