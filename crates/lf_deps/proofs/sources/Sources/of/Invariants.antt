use Rattle.std.proofs.Common.{take}
use Rattle.lf_ast.specs.Rules.{rule_trees}
use Rattle.lf_deps.specs.views.Sources.{IsSourcesOf}
use Rattle.lf_deps.proofs.sources.Sources.of.Given as goal

abbrev pub invariant-loop-k : goal.invariant-loop-k
invariant-loop-k l = IsSourcesOf (rule_trees (take l.k l.rules)) l.sources
