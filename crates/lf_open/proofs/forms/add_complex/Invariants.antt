use Rattle.std.proofs.Common.{take}
use Rattle.lf_laws.specs.Gaining.{OfSome}
use Rattle.lf_open.specs.views.Adding.{Adds, IsComplexAt}
use Rattle.lf_open.proofs.forms.add_complex.Given as goal

abbrev pub invariant-loop-matcher : goal.invariant-loop-matcher
invariant-loop-matcher l = Adds (OfSome (IsComplexAt l.rule) (take l.matcher-index l.matchers)) l.fn.found.items l.found.items
