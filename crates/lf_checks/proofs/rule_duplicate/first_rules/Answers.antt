use Rattle.std.proofs.Common.{◌≡◌, ◌<◌, ◌≤◌, ◌++◌, ◌∷◌, [], ℕ, List, Option, length, take, sym, ap, ◌∙◌, false, subst, arith}
use Rattle.lf_deps.proofs.RuleTrees.{tree_at, trees_more}
use Rattle.lf_ast.specs.Rules.{RuleTree, rule_tree, rule_trees}
use Rattle.lf_checks.specs.views.Duplicates.{AreFirsts, AreKept, HaveNone, is_shared}
use Rattle.lf_checks.proofs.DuplicateLaws.{as_many, firsts_more, none_before}
use Rattle.lf_checks.proofs.rule_duplicate.first_rules.Goals as goal

pub loop-place-preserved : goal.loop-place-preserved
loop-place-preserved c =
    let rules = c.args.rules.now in
    let k = c.loop-place.place in
    let sources = c.args.sources.now in
    let among = is_shared sources in
    let r = c.get-rule.result.now in
    let before = rule_trees (take k rules) in
    let lt : k < length rules = omega (arith, c.loop-place-test.true, c.len-place-end.ensures) in
    let le : k ≤ length rules = omega (arith, lt) in
    let more = trees_more rules k r lt c.get-rule.ensures.read in
    let count = as_many rules k le in
    let named : among (rule_tree r).name ≡ c.is_shared-shared.result = sym (c.is_shared-shared.ensures ∙ ap among c.as_str.ensures) in
    let alone : c.is_shared-shared.result ≡ false → (rule_tree r).alert ≡ false → HaveNone before (rule_tree r) = λ off recorded. none_before rules sources c.requires k (rule_tree r) (tree_at rules k r c.get-rule.ensures.value) (named ∙ off) recorded in (
      subst (λ (l : List RuleTree). AreKept among l c.first.new.self.keys c.first.new.self.numbers.items) more (c.in_ok-first.ensures.kept before among count c.loop-place.invariant.0 named),
      subst (λ (l : List RuleTree). AreFirsts l c.push.new.self.items) more
          (subst (λ (f : List (Option ℕ)). AreFirsts (before ++ rule_tree r ∷ []) f) (sym c.in_ok-push.ensures.items)
          (firsts_more before c.loop-place.firsts.items (rule_tree r) c.in_ok-first.first c.loop-place.invariant.1 (c.in_ok-first.ensures.first before among count c.loop-place.invariant.0 named alone))),
    )
