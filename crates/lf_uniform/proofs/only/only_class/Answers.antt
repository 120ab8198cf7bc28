use Rattle.std.proofs.Common.{◌≡◌, List, Some, sym, ◌∙◌, ap, length, arith}
use Rattle.std.specs.Prelude.{false, slice_get}
use Rattle.std.proofs.lemmas.Option.{IfSome_then}
use Rattle.lf_laws.proofs.Slices.{one_at}
use Rattle.lf_ast.specs.Labels.{Bytes}
use Rattle.lf_ast.specs.Rules.{RuleTree, rule_tree, rule_trees}
use Rattle.lf_ast.specs.Tree.{Tree, tree}
use Rattle.lf_ast.specs.declared.rule.Rule.{Rule}
use Rattle.lf_deps.proofs.RuleTrees.{tree_at}
use Rattle.lf_semantics.specs.Grouped.{is_metric}
use Rattle.lf_semantics.specs.Listing.{Listing}
use Rattle.lf_candidates.specs.views.ClassTexts.{name_at, text_at}
use Rattle.lf_uniform.specs.views.Required.{required_text}
use Rattle.lf_uniform.proofs.RequiredTexts.{is_only}
use Rattle.lf_uniform.proofs.only.only_class.Goals as goal

pub get-own-requires : goal.get-own-requires
get-own-requires c = let m = ap length c.rules.ensures in omega (arith, c.requires.rule, m)

pub returns-in-Some-clause-only : goal.returns-in-Some-clause-only
returns-in-Some-clause-only c = λ own at.
    let u = c.args.setting.now.universe in
    let rules : List RuleTree = rule_trees c.args.setting.now.rules in
    let l = c.args.label in
    let rule : Rule = c.get-own.result.now in
    let same : c.universe-universe.result.now ≡ u = c.universe-universe.ensures.value in
    let there = tree_at c.args.setting.now.rules c.args.number rule (sym (ap (λ (rs : List Rule). slice_get rs c.args.number) c.rules.ensures) ∙ c.get-own.ensures.value) in
    let expr : tree rule.expr ≡ own.expr = ap (λ (r : RuleTree). r.expr) (one_at rules c.args.number (rule_tree rule) own there at) in
    let named : is_metric (name_at u l) ≡ false = ap is_metric (sym c.requires.name) ∙ ap is_metric (sym c.as_str.ensures) ∙ sym c.is_metric.ensures ∙ c.if-is_metric.false in
    let asks : required_text rules (name_at u l) own.expr ≡ Some c.in-Some.text =
    ap (λ (e : Tree). required_text rules (name_at u l) e) (sym expr) ∙ ap (λ (n : Bytes). required_text rules n (tree rule.expr)) (sym c.requires.name) ∙ sym c.in_ok-text.ensures ∙ c.in-Some.is in
    IfSome_then c.class_with.result c.class_with.ensures.text (λ class is. is_only u rules c.args.number own l class c.in-Some.text named asks (ap (λ (v : Listing). text_at v l class) (sym same) ∙ is))
