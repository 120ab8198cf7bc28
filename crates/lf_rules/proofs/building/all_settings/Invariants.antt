use Rattle.std.proofs.Common.{◌≡◌, ◌++◌, map, length}
use Rattle.lf_yaml.specs.Tree.{pair}
use Rattle.lf_rules.specs.reading.Files.{AreLeaves, setting_of}
use Rattle.lf_rules.specs.Sources.{setting_in}
use Rattle.lf_rules.proofs.building.all_settings.Given as goal

abbrev pub invariant-loop-entry : goal.invariant-loop-entry
invariant-loop-entry l = AreLeaves (map pair l.rest) × ((map setting_in l.pairs ++ map setting_of (map pair l.rest)) ≡ map setting_of (map pair l.entries))

abbrev pub decreases-loop-entry : goal.decreases-loop-entry
decreases-loop-entry l = length l.rest
