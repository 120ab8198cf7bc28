use Rattle.std.proofs.Common.{◌≡◌, ℕ, List, Some, refl, sym, ◌∙◌, subst, slice_get}
use Rattle.lf_laws.proofs.Slices.{member_at}
use Rattle.lf_ast.specs.Rules.{RuleTree, rule_tree}
use Rattle.lf_deps.proofs.LookedUp.{selected_is}
use Rattle.lf_deps.proofs.RuleTrees.{tree_at}
use Rattle.lf_open.specs.OpenList.{AreOpenOf}
use Rattle.lf_open.specs.declared.open_at.OpenAt.{OpenAt}
use Rattle.lf_open.specs.views.Adding.{AreFound}
use Rattle.lf_open.specs.views.Known.{rules_of}
use Rattle.lf_open.proofs.NodeLaws.{own_list}
use Rattle.lf_open.proofs.opens.own_list.Goals as goal

pub open_in-requires-clause-selected : goal.open_in-requires-clause-selected
open_in-requires-clause-selected c =
    let rules : List RuleTree = rules_of c.args.known.now in
    let r : RuleTree = rule_tree c.get.result.now in
    let at : slice_get rules c.args.k ≡ Some r = tree_at c.args.known.now.rules.now c.args.k c.get.result.now c.get.ensures.value in
    c.selected_by-selected.ensures ∙ selected_is rules c.args.known.now.sources.now c.requires.known.sources c.args.k r at

pub open_in-requires-clause-rule : goal.open_in-requires-clause-rule
open_in-requires-clause-rule c =
    let rules : List RuleTree = rules_of c.args.known.now in
    let r : RuleTree = rule_tree c.get.result.now in
    (r, member_at rules c.args.k r (tree_at c.args.known.now.rules.now c.args.k c.get.result.now c.get.ensures.value), refl)

pub returns : goal.returns
returns c =
    let rules : List RuleTree = rules_of c.args.known.now in
    let k = c.args.k in
    let r : RuleTree = rule_tree c.get.result.now in
    let at : slice_get rules k ≡ Some r = tree_at c.args.known.now.rules.now k c.get.result.now c.get.ensures.value in
    let found : List OpenAt = c.in_ok-found.found.items in
    let are : AreFound rules k r.expr found = subst (λ (n : ℕ). AreFound rules n r.expr found) c.in_ok-rule.ensures c.in_ok-found.ensures in
    let order = c.in_ok-sorted.ensures k (λ o there. ((are o).0 there).0) in
    subst (AreOpenOf rules k) (sym c.from_vec.ensures) (own_list rules k r at found c.in_ok-sorted.sorted.items are order)
