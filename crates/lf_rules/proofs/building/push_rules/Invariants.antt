use Rattle.std.proofs.Common.{◌≡◌, ◌++◌, map, length}
use Rattle.lf_yaml.specs.Tree.{tree}
use Rattle.lf_rules.specs.reading.Files.{AreReadable, tree_source}
use Rattle.lf_rules.specs.Sources.{source_in}
use Rattle.lf_rules.proofs.building.push_rules.Given as goal

abbrev pub invariant-loop-node : goal.invariant-loop-node
invariant-loop-node l = AreReadable (map tree l.rest) × ((map source_in l.rules ++ map (tree_source l.group) (map tree l.rest)) ≡ map source_in l.initial.rules ++ map (tree_source l.group) (map tree l.nodes))

abbrev pub decreases-loop-node : goal.decreases-loop-node
decreases-loop-node l = length l.rest
