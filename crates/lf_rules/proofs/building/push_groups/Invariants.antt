use Rattle.std.proofs.Common.{◌≡◌, ◌++◌, map, length}
use Rattle.lf_yaml.specs.Tree.{tree}
use Rattle.lf_rules.specs.reading.Files.{AreReadableGroups, groups_sources}
use Rattle.lf_rules.specs.Sources.{source_in}
use Rattle.lf_rules.proofs.building.push_groups.Given as goal

abbrev pub invariant-loop-group : goal.invariant-loop-group
invariant-loop-group l = AreReadableGroups (map tree l.rest) × ((map source_in l.rules ++ groups_sources l.number (map tree l.rest)) ≡ map source_in l.initial.rules ++ groups_sources 0 (map tree l.groups))

abbrev pub decreases-loop-group : goal.decreases-loop-group
decreases-loop-group l = length l.rest
