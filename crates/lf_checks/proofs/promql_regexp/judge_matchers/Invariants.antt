use Rattle.std.proofs.Common.{take}
use Rattle.lf_laws.specs.Gaining.{OfSome}
use Rattle.lf_checks.specs.views.Adding.{Adds}
use Rattle.lf_checks.specs.views.Patterns.{IsOfMatcher}
use Rattle.lf_checks.proofs.promql_regexp.judge_matchers.Given as goal

abbrev pub invariant-loop-matcher : goal.invariant-loop-matcher
invariant-loop-matcher l = Adds (OfSome IsOfMatcher (take l.matcher-index l.matchers)) l.fn.found.items l.found.items
