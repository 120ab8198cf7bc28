use Rattle.std.proofs.Common.{[], take}
use Rattle.lf_laws.specs.Gaining.{OfSome}
use Rattle.lf_ast.specs.Tree.{tree}
use Rattle.lf_checks.specs.views.Adding.{Adds}
use Rattle.lf_checks.specs.views.Patterns.{IsOfPart}
use Rattle.lf_checks.proofs.promql_regexp.promql_regexp.Given as goal

abbrev pub invariant-loop-part : goal.invariant-loop-part
invariant-loop-part l = Adds (OfSome (λ x. IsOfPart (tree x.now)) (take l.part-index l.parts)) [] l.found.items
