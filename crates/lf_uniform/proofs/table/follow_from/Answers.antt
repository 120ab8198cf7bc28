use Rattle.std.proofs.Common.{◌≡◌, List, Some, length, ◌∙◌, ap, subst, arith}
use Rattle.std.specs.Prelude.{slice_get}
use Rattle.std.proofs.lemmas.Option.{slice_get_within}
use Rattle.std.proofs.lemmas.Result.{IfOk-weaker}
use Rattle.lf_ast.specs.Labels.{Bytes}
use Rattle.lf_ast.specs.Rules.{RuleTree, rule_tree, rule_trees}
use Rattle.lf_deps.proofs.RuleTrees.{tree_at, trees_count}
use Rattle.lf_trials.specs.Follow.{Followed, follow, follow_from}
use Rattle.lf_uniform.specs.views.Following.{known_by}
use Rattle.lf_laws.proofs.Options.{same_option}
use Rattle.lf_uniform.proofs.Sound.{follows_way}
use Rattle.lf_uniform.proofs.table.follow_from.Goals as goal

pub values-requires : goal.values-requires
values-requires c = c.requires.is_line.entries

pub get-own-requires : goal.get-own-requires
get-own-requires c =
    let w = slice_get_within (rule_trees c.args.setting.now.rules) c.args.number c.requires.own c.requires.at in
    let n = trees_count c.args.setting.now.rules in
    let m = ap length c.rules.ensures in
    omega (arith, w, n, m)

pub returns : goal.returns
returns c = λ own at.
    let u = c.args.setting.now.universe in
    let rules : List RuleTree = rule_trees c.args.setting.now.rules in
    let label : Bytes = c.args.label.now in
    let given : Bytes = c.args.given.now in
    let line = c.args.line.now in
    let values : List Followed = c.in_ok-values.values.items in
    let same : rule_tree c.get-own.result.now ≡ own =
    same_option (slice_get rules c.args.number) (rule_tree c.get-own.result.now) own (tree_at c.args.setting.now.rules c.args.number c.get-own.result.now (subst (λ rs. slice_get rs c.args.number ≡ Some c.get-own.result.now) c.rules.ensures c.get-own.ensures.value)) at in
    IfOk-weaker c.through.result (λ text. text ≡ follow u rules label given (known_by c.names.result.now c.as_slice.result.now) (rule_tree c.get-own.result.now).expr) (λ text. text ≡ follow_from u rules label given c.args.number own)
    (λ text e. e ∙ ap (λ ns. follow u rules label given (known_by ns c.as_slice.result.now) (rule_tree c.get-own.result.now).expr) c.names.ensures
    ∙ ap (λ vs. follow u rules label given (known_by line.names vs) (rule_tree c.get-own.result.now).expr) c.as_slice.ensures.value
    ∙ ap (λ (r : RuleTree). follow u rules label given (known_by line.names values) r.expr) same
    ∙ follows_way u rules label given line values c.args.number c.requires c.in_ok-values.ensures own at)
    c.through.ensures
