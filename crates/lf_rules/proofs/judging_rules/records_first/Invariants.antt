use Rattle.std.proofs.Common.{◌≡◌, map, length}
use Rattle.lf_yaml.specs.Tree.{pair}
use Rattle.lf_rules.specs.reading.Files as reading
use Rattle.lf_rules.proofs.judging_rules.records_first.Given as goal

abbrev pub invariant-loop-entry : goal.invariant-loop-entry
invariant-loop-entry l = reading.records_first (map pair l.rest) ≡ reading.records_first (map pair l.entries)

abbrev pub decreases-loop-entry : goal.decreases-loop-entry
decreases-loop-entry l = length l.rest
