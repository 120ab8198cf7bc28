use Rattle.std.proofs.Common.{◌⊎◌, List}
use Rattle.std.proofs.lemmas.Result.{IfOk-weaker}
use Rattle.std.specs.Prelude.{◌≡◌, ◌++◌}
use Rattle.lf_ast.specs.Rules.{rule_tree}
use Rattle.lf_ast.specs.declared.verdict.Finding.{Finding as Row}
use Rattle.lf_checks.specs.Finding.{Finding}
use Rattle.lf_checks.specs.MatchLabel as match_label
use Rattle.lf_checks.specs.PromqlRegexp as promql_regexp
use Rattle.lf_checks.specs.RuleDependency as rule_dependency
use Rattle.lf_checks.specs.views.Checked.{IsOfParts}
use Rattle.lf_checks.specs.views.Shown.{ListsAlone}
use Rattle.lf_checks.proofs.Lists.{alone_both}
use Rattle.lf_checks.proofs.checker.of_parts.Goals as goal

pub returns : goal.returns
returns c env rows rules are =
    let u = c.args.universe.now in
    let r = rule_tree c.args.rule.now in
    let A : Finding → Type 0 = rule_dependency.IsFound rules r in
    let B : Finding → Type 0 = promql_regexp.IsFound r in
    let C : Finding → Type 0 = match_label.IsFound u env r in
    let two : List Row = c.in_ok-two.two.items in
    let more : List Row = c.in_ok-labels.labels.items in
    let first = alone_both A B c.in_ok-dependencies.dependencies.items c.in_ok-patterns.patterns.items two (c.in_ok-dependencies.ensures rules are) c.in_ok-patterns.ensures c.in_ok-two.ensures in
    IfOk-weaker c.both-2.result (λ all. all.items ≡ two ++ more) (λ all. ListsAlone (IsOfParts u env rules r) all.items)
    (λ all e. alone_both (λ f. A f ⊎ B f) C two more all.items first (c.in_ok-labels.ensures env rows) e) c.both-2.ensures
