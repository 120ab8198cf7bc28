use Rattle.std.proofs.Common.{take}
use Rattle.lf_semantics.specs.ClassRows.{HasShape}
use Rattle.lf_candidates.specs.views.ClassTexts.{HasPassing}
use Rattle.lf_candidates.proofs.names_left.names_left.Given as goal

abbrev pub invariant-loop-matcher : goal.invariant-loop-matcher
invariant-loop-matcher l = HasShape l.universe l.row × HasPassing l.universe (take l.matcher-index l.matchers) l.row
