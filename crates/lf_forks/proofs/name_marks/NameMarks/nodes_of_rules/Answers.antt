use Rattle.std.proofs.Common.{◌++◌, ℕ, List, take, sym, ◌∙◌, ap}
use Rattle.std.specs.List.{flat_map}
use Rattle.std.proofs.lemmas.Option.{get_or_from_slice_get, slice_get_within}
use Rattle.lf_ast.specs.Rules.{RuleTree, rule_tree, rule_trees}
use Rattle.lf_deps.proofs.RuleTrees.{tree_at}
use Rattle.lf_forks.specs.views.NameMarks.{NameMarks}
use Rattle.lf_forks.specs.views.Uses.{fork_nodes}
use Rattle.lf_forks.proofs.Puts.{flat_next}
use Rattle.lf_forks.proofs.name_marks.NameMarks.nodes_of_rules.Goals as goal

pub loop-k-preserved : goal.loop-k-preserved
loop-k-preserved c =
    let own : NameMarks = c.args.self.now in
    let rules : List RuleTree = rule_trees c.args.rules.now in
    let r : RuleTree = rule_tree c.get.result.now in
    let at = tree_at c.args.rules.now c.loop-k.k c.get.result.now c.get.ensures.value in
    c.in_ok-push_nodes.ensures
    ∙ ap (λ (l : List ℕ). l ++ fork_nodes own r) c.loop-k.invariant
    ∙ ap (λ (x : RuleTree). flat_map (fork_nodes own) (take c.loop-k.k rules) ++ fork_nodes own x) (sym (get_or_from_slice_get rules c.loop-k.k r r at))
    ∙ sym (flat_next (fork_nodes own) rules c.loop-k.k r (slice_get_within rules c.loop-k.k r at))
