use Rattle.std.proofs.Common.{◌≡◌, List, [], map, length}
use Rattle.lf_yaml.specs.Tree.{tree}
use Rattle.lf_base.specs.views.NameSets.{HasNames}
use Rattle.lf_rules.specs.reading.Files.{least_from, names_faults}
use Rattle.lf_base.specs.Names.{Bytes}
use Rattle.lf_rules.proofs.judging_groups.judge_names.Given as goal

-- the names of the groups before are in the set
abbrev pub invariant-loop-group : goal.invariant-loop-group
invariant-loop-group l = (names : List Bytes) × HasNames l.seen names × (least_from l.first (names_faults names (map tree l.rest)) ≡ least_from l.initial.first (names_faults [] (map tree l.groups)))

abbrev pub decreases-loop-group : goal.decreases-loop-group
decreases-loop-group l = length l.rest
