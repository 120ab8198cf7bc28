use Rattle.std.proofs.Common.{◌≡◌, ◌<◌, ◌+◌, ℕ, List, get_or, length, sym, ◌∙◌, ap, subst, arith}
use Rattle.std.specs.Prelude.{slice_get}
use Rattle.std.specs.Option.{option_map}
use Rattle.lf_ast.specs.Labels.{Bytes}
use Rattle.lf_ast.specs.Rules.{RuleTree, rule_trees}
use Rattle.lf_deps.proofs.RuleTrees.{trees_count}
use Rattle.lf_trials.specs.Follow.{Followed, follow, recorded_text}
use Rattle.lf_uniform.specs.views.Following.{known_by}
use Rattle.lf_uniform.specs.views.Lines.{AreValuesBefore}
use Rattle.lf_uniform.proofs.Values.{entry_rule, one_value}
use Rattle.lf_uniform.proofs.table.values.Goals as goal

pub value-requires : goal.value-requires
value-requires c =
    let line = c.args.line.now in
    let k : ℕ = c.loop-number.number-index in
    let less : k < length line.numbers = let m = ap length c.numbers-number-items.ensures in omega (arith, m, c.loop-number-test.true) in
    let e = entry_rule (rule_trees c.args.setting.now.rules) line c.requires k less in
    let n = trees_count c.args.setting.now.rules in
    let same : get_or c.numbers-number-items.result.now k 0 ≡ get_or line.numbers k 0 = ap (λ xs. get_or xs k 0) c.numbers-number-items.ensures in
    omega (arith, e, n, same)

pub loop-number-preserved : goal.loop-number-preserved
loop-number-preserved c =
    let u = c.args.setting.now.universe in
    let rules : List RuleTree = rule_trees c.args.setting.now.rules in
    let label : Bytes = c.args.label.now in
    let given : Bytes = c.args.given.now in
    let line = c.args.line.now in
    let k : ℕ = c.loop-number.number-index in
    let values : List Followed = c.loop-number.values.items in
    let number : get_or line.numbers k 0 ≡ get_or c.numbers-number-items.result.now k 0 = ap (λ xs. get_or xs k 0) (sym c.numbers-number-items.ensures) in
    subst (λ (vs : List Followed). AreValuesBefore u rules label given line (k + 1) vs) (sym c.in_ok-push.ensures.items)
    (one_value u rules label given line k values c.in_ok-value.value c.loop-number.invariant
    (λ r at. c.in_ok-value.ensures r (ap (slice_get rules) (sym number) ∙ at) ∙ ap (λ vs. option_map (recorded_text label r) (follow u rules label given (known_by line.names vs) r.expr)) c.as_slice.ensures.value))
