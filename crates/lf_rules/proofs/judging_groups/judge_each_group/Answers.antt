use Rattle.std.proofs.Common.{map, ap, sym, ◌∙◌}
use Rattle.std.specs.List.{flat_map}
use Rattle.lf_yaml.specs.Tree.{tree}
use Rattle.lf_rules.specs.reading.Files.{least_from, group_tree_faults}
use Rattle.lf_rules.proofs.Folded.{least_flat}
use Rattle.lf_rules.proofs.judging_groups.judge_each_group.Goals as goal

pub loop-node-preserved : goal.loop-node-preserved
loop-node-preserved c =
    ap (λ w. least_from w (flat_map group_tree_faults (map tree c.in-Some.others.now))) c.judge_group_node.ensures
    ∙ sym (least_flat group_tree_faults c.loop-node.first (tree c.in-Some.node.now) (map tree c.in-Some.others.now))
    ∙ ap (λ ns. least_from c.loop-node.first (flat_map group_tree_faults (map tree ns))) (sym c.in-Some.ensures.cases.0)
    ∙ c.loop-node.invariant
