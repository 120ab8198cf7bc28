use Rattle.std.proofs.Common.{ℕ, List, ◌∙◌, ap}
use Rattle.std.specs.Prelude.{slice_index}
use Rattle.std.proofs.lemmas.Result.{err_from_is_err_and}
use Rattle.lf_scalar.specs.Scalars.{value}
use Rattle.lf_accept.proofs.Steps.{at_tokens, is_expr, refuses_expr}
use Rattle.lf_accept.proofs.Takings.{no_tokens_taken, read_so}
use Rattle.lf_accept.proofs.expression.read_expr.Goals as goal

pub lex-requires-clause-rises : goal.lex-requires-clause-rises
lex-requires-clause-rises c = c.args.scalar.now.offsets.1

pub returns-in_err-tokens-clause-refused : goal.returns-in_err-tokens-clause-refused
returns-in_err-tokens-clause-refused c =
    let p = err_from_is_err_and c.from_residual.result c.from_residual.ensures.1 in
    rw (p.1, p.2) (at_tokens (value c.args.scalar.now) c.in_err-tokens.field-0.0 c.in_err-tokens.ensures.refused)

pub returns-clause-found : goal.returns-clause-found
returns-clause-found c = is_expr (value c.args.scalar.now) c.in_ok-tokens.tokens c.read_tokens.result c.in_ok-tokens.ensures.found c.read_tokens.ensures.found

pub returns-clause-refused : goal.returns-clause-refused
returns-clause-refused c =
    let s = value c.args.scalar.now in
    refuses_expr s c.in_ok-tokens.tokens (slice_index c.as_slice.result.now c.len.result) (ap (λ (xs : List ℕ). slice_index xs c.len.result) c.as_slice.ensures ∙ ap (slice_index s.from) c.len.ensures)
    c.in_ok-tokens.ensures.found c.read_tokens.result c.read_tokens.ensures.refused

pub returns-in_err-tokens-clause-spent : goal.returns-in_err-tokens-clause-spent
returns-in_err-tokens-clause-spent c =
    let p = err_from_is_err_and c.from_residual.result c.from_residual.ensures.1 in
    rw (p.1, p.2) (no_tokens_taken (value c.args.scalar.now) c.args.allowance.now.left c.in_err-tokens.field-0.0 c.in_err-tokens.ensures.refused)

pub returns-clause-spent : goal.returns-clause-spent
returns-clause-spent c =
    let s = value c.args.scalar.now in
    read_so s c.in_ok-tokens.tokens (slice_index c.as_slice.result.now c.len.result) (ap (λ (xs : List ℕ). slice_index xs c.len.result) c.as_slice.ensures ∙ ap (slice_index s.from) c.len.ensures)
    c.in_ok-tokens.ensures.found c.args.allowance.now.left c.read_tokens.new.allowance.left c.read_tokens.result c.read_tokens.ensures.spent
