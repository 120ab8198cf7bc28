use Rattle.std.proofs.Common.{◌≡◌, ℕ, List, Some, get_or, length, ◌∙◌, ap, subst, arith}
use Rattle.std.specs.Prelude.{slice_get}
use Rattle.std.proofs.lemmas.List.{take_all}
use Rattle.std.proofs.lemmas.List.Elements.{Contains-get_or}
use Rattle.lf_ast.specs.Rules.{RuleTree, rule_tree, rule_trees}
use Rattle.lf_deps.proofs.RuleTrees.{tree_at}
use Rattle.lf_trials.specs.Selected.{selected_by}
use Rattle.lf_uniform.specs.declared.naming.NameCollector.{NameCollector}
use Rattle.lf_uniform.specs.views.Naming.{unsaid_by, unsaid_in, with_each}
use Rattle.lf_uniform.proofs.SeriesNames.{unsaid_more}
use Rattle.lf_uniform.proofs.naming.with_unsaid.Goals as goal

pub get-rule-requires : goal.get-rule-requires
get-rule-requires c =
    let numbers : List ℕ = c.args.numbers.now in
    let k : ℕ = c.loop-number.number-index in
    let small = c.requires (get_or numbers k 0) (Contains-get_or numbers k 0 c.loop-number-test.true) in
    let m = ap length (c.rules.ensures ∙ ap (λ s. s.now.rules) c.loop-number.invariant.setting) in
    omega (arith, small, m)

pub loop-number-preserved : goal.loop-number-preserved
loop-number-preserved c =
    let start : NameCollector = c.args.naming in
    let u = start.setting.now.universe in
    let rules : List RuleTree = rule_trees start.setting.now.rules in
    let numbers : List ℕ = c.args.numbers.now in
    let k : ℕ = c.loop-number.number-index in
    let n : ℕ = get_or numbers k 0 in
    let naming : NameCollector = c.loop-number.naming in
    let r : RuleTree = rule_tree c.get-rule.result.now in
    let same = c.rules.ensures ∙ ap (λ s. s.now.rules) c.loop-number.invariant.setting in
    let at : slice_get rules n ≡ Some r = tree_at start.setting.now.rules n c.get-rule.result.now (subst (λ rs. slice_get rs n ≡ Some c.get-rule.result.now) same c.get-rule.ensures.value) in
    record {
      names = ap (λ (s : NameCollector). s.names) c.in_ok-visit.ensures
          ∙ ap (λ s. with_each naming.names (unsaid_in s.now.universe (rule_trees s.now.rules) r.expr)) c.loop-number.invariant.setting
          ∙ unsaid_more u rules numbers k r start.names naming.names c.loop-number-test.true at c.loop-number.invariant.names;
      setting = ap (λ (s : NameCollector). s.setting) c.in_ok-visit.ensures ∙ c.loop-number.invariant.setting;
    }

pub returns : goal.returns
returns c =
    let start : NameCollector = c.args.naming in
    let u = start.setting.now.universe in
    let rules : List RuleTree = rule_trees start.setting.now.rules in
    c.loop-number.invariant.names ∙ ap (λ (xs : List ℕ). with_each start.names (unsaid_by u rules (selected_by rules xs))) (take_all c.loop-number.number-index c.args.numbers.now c.loop-number-test.false)
