use Rattle.std.proofs.Common.{◌≡◌, map, length}
use Rattle.std.specs.List.{flat_map}
use Rattle.lf_yaml.specs.Tree.{tree}
use Rattle.lf_rules.specs.reading.Files as reading
use Rattle.lf_rules.proofs.judging_rules.judge_each_rule.Given as goal

abbrev pub invariant-loop-node : goal.invariant-loop-node
invariant-loop-node l = reading.least_from l.first (flat_map reading.rule_tree_faults (map tree l.rest)) ≡ reading.least_from l.initial.first (flat_map reading.rule_tree_faults (map tree l.nodes))

abbrev pub decreases-loop-node : goal.decreases-loop-node
decreases-loop-node l = length l.rest
