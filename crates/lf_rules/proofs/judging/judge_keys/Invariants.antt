use Rattle.std.proofs.Common.{◌≡◌, map, length}
use Rattle.std.specs.List.{flat_map}
use Rattle.lf_yaml.specs.Tree.{pair}
use Rattle.lf_rules.specs.reading.Files as reading
use Rattle.lf_rules.proofs.judging.judge_keys.Given as goal

abbrev pub invariant-loop-entry : goal.invariant-loop-entry
invariant-loop-entry l = reading.least_from l.first (flat_map (reading.unknown_faults (reading.keys_of l.level)) (map pair l.rest)) ≡ reading.least_from l.initial.first (flat_map (reading.unknown_faults (reading.keys_of l.level)) (map pair l.entries))

abbrev pub decreases-loop-entry : goal.decreases-loop-entry
decreases-loop-entry l = length l.rest
