use Rattle.std.proofs.Common.{◌≡◌, None, drop}
use Rattle.lf_classes.specs.reading.Checking.{matchers_fault}
use Rattle.lf_classes.proofs.patterns.matchers_fault.Given as goal

abbrev pub invariant-loop-matcher : goal.invariant-loop-matcher
invariant-loop-matcher l = matchers_fault l.fault (drop l.matcher-index l.matchers) ≡ matchers_fault None l.matchers
