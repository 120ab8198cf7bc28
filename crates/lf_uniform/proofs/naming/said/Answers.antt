use Rattle.std.proofs.Common.{◌≡◌, ◌<◌, ℕ, List, Option, get_or, length, [], ◌∙◌, ap, arith}
use Rattle.std.proofs.lemmas.List.{take_all}
use Rattle.std.proofs.lemmas.List.Elements.{Contains-get_or}
use Rattle.lf_ast.specs.Labels.{Bytes}
use Rattle.lf_ast.specs.Rules.{RuleTree, rule_trees}
use Rattle.lf_deps.specs.Reading.{selectors}
use Rattle.lf_deps.proofs.LookedUp.{selected_count, selected_is}
use Rattle.lf_deps.proofs.RuleTrees.{trees_count}
use Rattle.lf_trials.specs.Selected.{selected_by}
use Rattle.lf_uniform.specs.views.Naming.{said_all, said_by, with_each}
use Rattle.lf_uniform.specs.views.Settings.{Setting}
use Rattle.lf_uniform.proofs.SeriesNames.{said_more}
use Rattle.lf_laws.proofs.Slices.{some_at}
use Rattle.lf_uniform.proofs.naming.said.Goals as goal

pub selected_by-requires : goal.selected_by-requires
selected_by-requires c =
    let numbers : List ℕ = c.args.numbers.now in
    let rules : List RuleTree = rule_trees c.args.setting.now.rules in
    let small = c.requires.numbers (get_or numbers c.loop-number.number-index 0) (Contains-get_or numbers c.loop-number.number-index 0 c.loop-number-test.true) in
    let n = selected_count rules c.args.sources.now c.requires.sources in
    let m = trees_count c.args.setting.now.rules in
    omega (arith, small, n, m)

pub loop-number-preserved : goal.loop-number-preserved
loop-number-preserved c =
    let rules : List RuleTree = rule_trees c.args.setting.now.rules in
    let numbers : List ℕ = c.args.numbers.now in
    let k : ℕ = c.loop-number.number-index in
    let n : ℕ = get_or numbers k 0 in
    let names : List Bytes = c.loop-number.naming.names in
    let small : n < length rules = let w = c.requires.numbers n (Contains-get_or numbers k 0 c.loop-number-test.true) in let m = trees_count c.args.setting.now.rules in omega (arith, w, m) in
    let r = some_at rules n small in
    let said : c.selected_by.result.now ≡ selectors r.0.expr = c.selected_by.ensures ∙ selected_is rules c.args.sources.now c.requires.sources n r.0 r.1 in
    record {
      names = c.in_ok-say.ensures.names
          ∙ ap (λ (s : Setting). with_each names (said_by (rule_trees s.rules) c.selected_by.result.now)) c.loop-number.invariant.setting
          ∙ ap (λ (xs : List (Option Bytes)). with_each names (said_by rules xs)) said
          ∙ said_more c.args.setting.now.universe rules numbers k r.0 names c.loop-number-test.true r.1 c.loop-number.invariant.names;
      setting = ap (λ s. s.now) c.in_ok-say.ensures.setting ∙ c.loop-number.invariant.setting;
    }

pub returns-clause-names : goal.returns-clause-names
returns-clause-names c =
    let rules : List RuleTree = rule_trees c.args.setting.now.rules in
    c.loop-number.invariant.names ∙ ap (λ (xs : List ℕ). with_each [] (said_all rules (selected_by rules xs))) (take_all c.loop-number.number-index c.args.numbers.now c.loop-number-test.false)
