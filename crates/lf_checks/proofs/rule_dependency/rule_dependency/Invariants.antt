use Rattle.std.proofs.Common.{List, [], take}
use Rattle.lf_laws.specs.Gaining.{OfSome}
use Rattle.lf_ast.specs.Rules.{RuleTree}
use Rattle.lf_ast.specs.Tree.{tree}
use Rattle.lf_checks.specs.views.Adding.{Adds}
use Rattle.lf_checks.specs.views.Recorded.{AreOf, IsOfSelector}
use Rattle.lf_checks.proofs.rule_dependency.rule_dependency.Given as goal

abbrev pub invariant-loop-part : goal.invariant-loop-part
invariant-loop-part l = (rules : List RuleTree) → AreOf rules l.recorded → Adds (OfSome (λ x. IsOfSelector rules (tree x.now)) (take l.part-index l.parts)) [] l.found.items
