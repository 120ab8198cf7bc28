use Rattle.std.proofs.Common.{◌≡◌, ℕ, List, length, take, ◌∙◌, subst, arith}
use Rattle.std.proofs.lemmas.List.{take_all, length-take-le}
use Rattle.lf_ast.specs.Rules.{RuleTree, rule_trees}
use Rattle.lf_ast.specs.declared.rule.Rule.{Rule}
use Rattle.lf_deps.specs.views.Sources.{IsSourcesOf}
use Rattle.lf_deps.proofs.Indexed.{no_sources, sources_full}
use Rattle.lf_deps.proofs.RuleTrees.{trees_count, trees_more}
use Rattle.lf_deps.proofs.sources.Sources.of.Goals as goal

pub loop-k-init : goal.loop-k-init
loop-k-init c = no_sources c.in_ok-selected.selected.items c.new.result c.new-2.result c.in_ok-selected.ensures.items c.new.ensures c.new-2.ensures

pub add-requires : goal.add-requires
add-requires c = record { full = sources_full (rule_trees (take c.loop-k.k c.args.rules.now)) c.loop-k.sources c.loop-k.invariant }

pub loop-k-preserved : goal.loop-k-preserved
loop-k-preserved c =
    let rules : List Rule = c.args.rules.now in
    let k : ℕ = c.loop-k.k in
    let r : Rule = c.get.result.now in
    let P : List RuleTree → Type 0 = λ l. IsSourcesOf l c.add.new.self in
    let size : length (rule_trees (take k rules)) ≡ k = trees_count (take k rules) ∙ length-take-le k rules (omega arith) in
    subst P (trees_more rules k r (omega (arith, c.loop-k-test.true)) c.get.ensures.read) (c.in_ok-add.ensures (rule_trees (take k rules)) size c.loop-k.invariant)

pub returns : goal.returns
returns c =
    let P : List Rule → Type 0 = λ l. IsSourcesOf (rule_trees l) c.loop-k.sources in
    subst P (take_all c.loop-k.k c.args.rules.now (omega (arith, c.loop-k-test.false))) c.loop-k.invariant
