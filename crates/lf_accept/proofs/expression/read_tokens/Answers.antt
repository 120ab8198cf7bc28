use Rattle.std.proofs.lemmas.Result.{err_from_is_err_and}
use Rattle.lf_ast.specs.Tree.{tree}
use Rattle.lf_accept.proofs.Steps.{at_judged, at_syntax}
use Rattle.lf_accept.proofs.Takings.{judged_so, no_syntax_taken}
use Rattle.lf_accept.proofs.expression.read_tokens.Goals as goal

pub returns-in_err-expr-clause-refused : goal.returns-in_err-expr-clause-refused
returns-in_err-expr-clause-refused c =
    let p = err_from_is_err_and c.from_residual.result c.from_residual.ensures.1 in
    rw (p.1, p.2) (at_syntax c.args.tokens.now c.args.end c.in_err-expr.field-0.0 c.in_err-expr.ensures.refused)

pub returns-in-Err-clause-refused : goal.returns-in-Err-clause-refused
returns-in-Err-clause-refused c = at_judged c.args.tokens.now c.args.end (tree c.in_ok-expr.expr) c.in-Err.refusal c.in_ok-expr.ensures.found c.in-Err.ensures.refused

pub returns-in_err-expr-clause-spent : goal.returns-in_err-expr-clause-spent
returns-in_err-expr-clause-spent c =
    let p = err_from_is_err_and c.from_residual.result c.from_residual.ensures.1 in
    rw (p.1, p.2) (no_syntax_taken c.args.tokens.now c.args.end c.args.allowance.now.left c.in_err-expr.field-0.0 c.in_err-expr.ensures.refused)

pub returns-in-Err-clause-spent : goal.returns-in-Err-clause-spent
returns-in-Err-clause-spent c =
    judged_so c.args.tokens.now c.args.end (tree c.in_ok-expr.expr) c.args.allowance.now.left c.judge.new.allowance.left c.in-Err.refusal c.in_ok-expr.ensures.found c.in-Err.ensures.spent
