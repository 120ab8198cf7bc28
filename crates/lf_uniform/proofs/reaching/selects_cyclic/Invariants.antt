use Rattle.std.proofs.Common.{List, take}
use Rattle.lf_ast.specs.Rules.{RuleTree}
use Rattle.lf_deps.specs.views.Sources.{IsSourcesOf}
use Rattle.lf_uniform.specs.views.Ways.{IsUncyclic}
use Rattle.lf_uniform.proofs.reaching.selects_cyclic.Given as goal

abbrev pub invariant-loop-number : goal.invariant-loop-number
invariant-loop-number l = (rules : List RuleTree) → IsSourcesOf rules l.sources → IsUncyclic rules (take l.number-index l.numbers)
