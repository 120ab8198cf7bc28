use Rattle.std.proofs.Common.{List, take}
use Rattle.lf_ast.specs.Rules.{RuleTree}
use Rattle.lf_deps.specs.views.Sources.{IsSourcesOf}
use Rattle.lf_uniform.specs.views.Ways.{IsCyclicIn}
use Rattle.lf_uniform.proofs.reaching.has_cyclic.Given as goal

abbrev pub invariant-loop-name : goal.invariant-loop-name
invariant-loop-name l = (rules : List RuleTree) → IsSourcesOf rules l.sources → IsCyclicIn rules (take l.name-index l.selected) → ⊥
