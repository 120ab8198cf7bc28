use Rattle.std.proofs.Common.{◌≡◌, ◌∙◌, ap, arith}
use Rattle.std.proofs.lemmas.Result.{err_from_is_err_and}
use Rattle.std.specs.List.{sum_by}
use Rattle.lf_ast.specs.Tree.{tree}
use Rattle.lf_accept.specs.Allowance.{count_in, count_of}
use Rattle.lf_accept.specs.Patterns.{texts_at}
use Rattle.lf_accept.proofs.Steps.{judged_at}
use Rattle.lf_accept.proofs.Takings.{no_type_taken, patterns_taken}
use Rattle.lf_accept.proofs.expression.judge.Goals as goal

pub returns-clause-refused : goal.returns-clause-refused
returns-clause-refused c = judged_at (tree c.args.expr.now) c.in_ok-type_of.field-0 c.in_ok-type_of.ensures.found c.check_patterns_by.result c.check_patterns_by.ensures.refused

pub returns-in_err-type_of-clause-spent : goal.returns-in_err-type_of-clause-spent
returns-in_err-type_of-clause-spent c =
    let p = err_from_is_err_and c.from_residual.result c.from_residual.ensures.1 in
    rw (p.1, p.2) (no_type_taken (tree c.args.expr.now) c.args.allowance.now.left c.in_err-type_of.field-0.0 c.in_err-type_of.ensures.refused)

pub returns-clause-spent : goal.returns-clause-spent
returns-clause-spent c =
    let e = tree c.args.expr.now in
    let same : sum_by count_of (texts_at c.as_slice-2.result.now) ≡ count_in e = ap (λ texts. sum_by count_of (texts_at texts)) c.as_slice-2.ensures.value ∙ ap (sum_by count_of) c.in_ok-patterns.ensures in
    patterns_taken e c.in_ok-type_of.field-0 c.in_ok-type_of.ensures.found c.args.allowance.now.left c.take_each.new.self.left (omega (arith, same, c.in_ok-take_each.ensures)) c.check_patterns_by.result c.check_patterns_by.ensures.refused
