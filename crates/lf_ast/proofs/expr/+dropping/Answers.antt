use Rattle.std.proofs.Common.{arith, rules, IsFalse}
use Rattle.lf_ast.specs.views.Turning.{Within}
use Rattle.lf_ast.specs.declared.expr.Expr.{size-Expr}
use Rattle.lf_ast.proofs.Turning.{under}
use Rattle.lf_ast.proofs.expr.+dropping.Goals as goal

pub Expr::drop-loop-self-init : goal.Expr::drop-loop-self-init
Expr::drop-loop-self-init t c = under c.args.self

pub Expr::drop-loop-self-preserved-then-turn : goal.Expr::drop-loop-self-preserved-then-turn
Expr::drop-loop-self-preserved-then-turn t c = search (rules, c.turn.ensures.inside (size-Expr c.args.self))

pub Expr::drop-drop-left-requires : goal.Expr::drop-drop-left-requires
Expr::drop-drop-left-requires t c κs =
    let inside : Within (size-Expr c.args.self) c.deref_mut.result.now = search rules in
    let kept : IsFalse c.turn.result = search rules in
    (((omega (arith, c.decreases, c.turn.ensures.single kept (size-Expr c.args.self) inside), tt), tt), (λ a m. search rules, λ a m. search rules))
