use Rattle.std.proofs.Common.{◌≡◌, take}
use Rattle.lf_strict.specs.views.Selected.{passing}
use Rattle.lf_strict.proofs.selecting.passing_each.Given as goal

abbrev pub invariant-loop-matcher : goal.invariant-loop-matcher
invariant-loop-matcher l = l.kept ≡ passing (take l.matcher-index l.matchers) l.initial.kept
