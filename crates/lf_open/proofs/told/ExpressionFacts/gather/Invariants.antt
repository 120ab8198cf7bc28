use Rattle.std.proofs.Common.{◌≡◌}
use Rattle.lf_open.specs.views.Told.{gathered}
use Rattle.lf_open.proofs.told.ExpressionFacts.gather.Given as goal

abbrev pub invariant-loop-part : goal.invariant-loop-part
invariant-loop-part l = l.all ≡ gathered l.fn.self l.yielded
