use Rattle.std.proofs.Common.{◌≡◌, ◌<◌, List, length, sym, ◌∙◌, ap, subst}
use Rattle.std.proofs.lemmas.Result.{IfOk-weaker}
use Rattle.lf_ast.specs.Labels.{Bytes}
use Rattle.lf_ast.specs.Rules.{RuleTree, rule_trees}
use Rattle.lf_trials.specs.Selected.{selected_by}
use Rattle.lf_trials.specs.Uniform.{series_names}
use Rattle.lf_uniform.specs.views.Naming.{unsaid_by, with_each}
use Rattle.lf_uniform.specs.views.Settings.{Setting}
use Rattle.lf_uniform.proofs.SeriesNames.{names_are}
use Rattle.lf_uniform.proofs.naming.series_names.Goals as goal

pub with_unsaid-requires : goal.with_unsaid-requires
with_unsaid-requires c = λ k there. subst (λ (s : Setting). k < length s.rules) (sym c.in_ok-naming.ensures.setting) (c.requires k there)

pub returns : goal.returns
returns c =
    let u = c.args.setting.now.universe in
    let rules : List RuleTree = rule_trees c.args.setting.now.rules in
    let selected = selected_by rules c.args.numbers.now in
    let start : List Bytes = c.in_ok-naming.naming.names in
    IfOk-weaker c.with_unsaid.result
    (λ names. names ≡ with_each start (unsaid_by c.in_ok-naming.naming.setting.now.universe (rule_trees c.in_ok-naming.naming.setting.now.rules) (selected_by (rule_trees c.in_ok-naming.naming.setting.now.rules) c.args.numbers.now)))
    (λ names. names ≡ series_names u rules selected)
    (λ names e. names_are u rules selected names
    (e
    ∙ ap (λ (s : Setting). with_each start (unsaid_by s.universe (rule_trees s.rules) (selected_by (rule_trees s.rules) c.args.numbers.now))) c.in_ok-naming.ensures.setting
    ∙ ap (λ (ns : List Bytes). with_each ns (unsaid_by u rules selected)) c.in_ok-naming.ensures.names))
    c.with_unsaid.ensures
