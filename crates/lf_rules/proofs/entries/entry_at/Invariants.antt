use Rattle.std.proofs.Common.{◌≡◌, map, length}
use Rattle.lf_yaml.specs.Tree.{pair}
use Rattle.lf_rules.specs.Mappings as mappings
use Rattle.lf_rules.proofs.entries.entry_at.Given as goal

abbrev pub invariant-loop-entry : goal.invariant-loop-entry
invariant-loop-entry l = mappings.entry_at l.key (map pair l.rest) ≡ mappings.entry_at l.key (map pair l.entries)

abbrev pub decreases-loop-entry : goal.decreases-loop-entry
decreases-loop-entry l = length l.rest
