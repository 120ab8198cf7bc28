use Rattle.std.proofs.Common.{◌≡◌, List, map, take}
use Rattle.lf_ast.specs.Rules.{RuleTree}
use Rattle.lf_deps.specs.views.Sources.{IsSourcesOf}
use Rattle.lf_trials.specs.Reached.{has_several_rules}
use Rattle.lf_forks.proofs.own.have_several.Given as goal

abbrev pub invariant-loop-k : goal.invariant-loop-k
invariant-loop-k l = (rules : List RuleTree) → IsSourcesOf rules l.sources → l.several.items ≡ map (has_several_rules rules) (take l.k l.sources.names)
