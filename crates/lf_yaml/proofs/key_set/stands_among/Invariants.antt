use Rattle.std.proofs.Common.{◌≡◌, length}
use Rattle.lf_yaml.specs.reading.Trees.{has}
use Rattle.lf_yaml.proofs.key_set.stands_among.Given as goal

abbrev pub invariant-loop-other : goal.invariant-loop-other
invariant-loop-other l = has l.rest l.text ≡ has l.texts l.text

abbrev pub decreases-loop-other : goal.decreases-loop-other
decreases-loop-other l = length l.rest
