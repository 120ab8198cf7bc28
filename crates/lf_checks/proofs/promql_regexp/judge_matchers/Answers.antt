use Rattle.std.proofs.Common.{subst}
use Rattle.lf_checks.specs.views.Adding.{Adds}
use Rattle.lf_checks.specs.views.Patterns.{IsOfMatcher}
use Rattle.lf_checks.proofs.Added.{adds_of_more}
use Rattle.lf_checks.proofs.promql_regexp.judge_matchers.Goals as goal

pub loop-matcher-preserved : goal.loop-matcher-preserved
loop-matcher-preserved c =
    adds_of_more IsOfMatcher c.args.matchers.now c.loop-matcher.matcher-index c.matcher-item.result c.args.found.now.items c.loop-matcher.found.items c.judge_matcher.new.found.items c.loop-matcher-test.true c.loop-matcher.invariant
    (subst (λ m. Adds (IsOfMatcher m) c.loop-matcher.found.items c.judge_matcher.new.found.items) c.matcher-item.is c.in_ok-judge_matcher.ensures)
