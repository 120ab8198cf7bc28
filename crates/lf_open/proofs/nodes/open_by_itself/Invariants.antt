use Rattle.std.proofs.Common.{[], take}
use Rattle.lf_laws.specs.Gaining.{OfSome}
use Rattle.lf_ast.specs.Tree.{tree}
use Rattle.lf_open.specs.views.Adding.{Adds, IsByItself}
use Rattle.lf_open.specs.views.Known.{rules_of}
use Rattle.lf_open.proofs.nodes.open_by_itself.Given as goal

abbrev pub invariant-loop-part : goal.invariant-loop-part
invariant-loop-part l = Adds (OfSome (λ p. IsByItself (rules_of l.known) l.rule (tree p.now)) (take l.part-index l.part-items)) [] l.found.items
