use Rattle.std.proofs.Common.{◌+◌, not, List, Option, ◌∙◌, subst, arith}
use Rattle.std.specs.List.{flat_map}
use Rattle.lf_ast.specs.Labels.{Bytes}
use Rattle.lf_ast.specs.Rules.{RuleTree, rule_tree, rule_trees}
use Rattle.lf_deps.specs.views.Links.{source_of}
use Rattle.lf_deps.proofs.LookedUp.{selected_is}
use Rattle.lf_deps.proofs.RuleTrees.{tree_at}
use Rattle.lf_semantics.specs.Listing.{place}
use Rattle.lf_forks.specs.views.Uses.{Puts}
use Rattle.lf_forks.proofs.Puts.{no_uses, uses_next}
use Rattle.lf_forks.proofs.uses.uses_of.Goals as goal

pub loop-k-init : goal.loop-k-init
loop-k-init c = no_uses c.args.names.now c.in_ok-uses.uses (c.len.result + 1) (omega (arith, c.len.ensures.count)) c.in_ok-uses.ensures

pub loop-k-preserved : goal.loop-k-preserved
loop-k-preserved c =
    let rules : List RuleTree = rule_trees c.args.rules.now in
    let r : RuleTree = rule_tree c.get.result.now in
    let at = tree_at c.args.rules.now c.loop-k.k c.get.result.now c.get.ensures.value in
    let P : List (Option Bytes) → Type 0 = λ found. Puts (not r.alert) (flat_map (source_of c.args.names.now) found) (place c.args.names.now r.name) c.loop-k.uses c.put_rule.new.uses in
    uses_next rules c.args.names.now c.loop-k.k r c.loop-k.uses c.put_rule.new.uses at c.loop-k.invariant
    (subst P (c.selected_by.ensures ∙ selected_is rules c.args.sources.now c.requires.sources c.loop-k.k r at) c.in_ok-put_rule.ensures)
