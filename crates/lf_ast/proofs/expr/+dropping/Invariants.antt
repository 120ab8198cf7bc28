use Rattle.lf_ast.specs.views.Turning.{Under, weight}
use Rattle.lf_ast.specs.declared.expr.Expr.{size-Expr}
use Rattle.lf_ast.proofs.expr.+dropping.Given as goal

abbrev pub invariant-Expr::drop-loop-self : goal.invariant-Expr::drop-loop-self
invariant-Expr::drop-loop-self l = Under (size-Expr l.initial.self) l.self

abbrev pub decreases-Expr::drop-loop-self : goal.decreases-Expr::drop-loop-self
decreases-Expr::drop-loop-self l = weight l.self
