use Rattle.std.proofs.Common.{ℕ, List}
use Rattle.lf_ast.specs.Rules.{RuleTree}
use Rattle.lf_semantics.specs.RowTable.{Environment}
use Rattle.lf_worlds.proofs.LabelVerdicts.{AreTold}
use Rattle.lf_worlds.proofs.leaving.settled.Given as goal

abbrev pub invariant-loop-label : goal.invariant-loop-label
invariant-loop-label l = (env : Environment) (rules : List RuleTree) (i : ℕ) → AreTold l.universe env rules i l.row l.label l.verdicts
