use Rattle.std.proofs.Common.{◌≡◌, ◌+◌, List, take}
use Rattle.lf_ast.specs.Rules.{RuleTree}
use Rattle.lf_deps.specs.views.Sources.{IsSourcesOf}
use Rattle.lf_built.specs.views.Counts.{others, selected}
use Rattle.lf_built.proofs.bound.most_selectors.Given as goal

abbrev pub invariant-loop-k : goal.invariant-loop-k
invariant-loop-k l = (rules : List RuleTree) → IsSourcesOf rules l.sources → l.count ≡ selected rules l.i + others rules l.i (take l.k-index l.reach)
