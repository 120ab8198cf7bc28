use Rattle.std.proofs.Common.{take}
use Rattle.lf_ast.specs.Rules.{rule_trees}
use Rattle.lf_forks.specs.views.Uses.{AreUses}
use Rattle.lf_forks.proofs.uses.uses_of.Given as goal

abbrev pub invariant-loop-k : goal.invariant-loop-k
invariant-loop-k l = AreUses (take l.k (rule_trees l.rules)) l.names l.uses
