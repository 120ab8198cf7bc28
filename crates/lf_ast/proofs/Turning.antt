-- That a loop that lets an expression go never meets a call as deep as the whole.
use Rattle.std.proofs.Common.{arith, ℕ, suc, ◌≤◌, rules}
use Rattle.lf_ast.specs.views.Turning.{Under, Within}
use Rattle.lf_ast.specs.declared.expr.Expr as E
use Rattle.lf_ast.specs.declared.expr.Expr.{Expr, size-Expr}
use Rattle.lf_ast.specs.declared.expr.Expr.TheViews.{deep-Subquery', deep-Paren', deep-Unary', deep-Binary'}

pub within : (n : ℕ) (e : Expr) → suc (size-Expr e) ≤ n → Within n e
within n (E.Subquery' at of sight span) le = within n of (omega (arith, deep-Subquery' at of sight span, le))
within n (E.Paren' at of span) le = within n of (omega (arith, deep-Paren' at of span, le))
within n (E.Unary' minus at of span) le = within n of (omega (arith, deep-Unary' minus at of span, le))
within n (E.Binary' op m at left there right span) le = (within n left (omega (arith, deep-Binary' op m at left there right span, le)), within n right (omega (arith, deep-Binary' op m at left there right span, le)))
within n (E.Number text span) le = le
within n (E.Str text span) le = le
within n (E.Selector name matchers sight span) le = le
within n (E.Call' name shape args span) le = le
within n (E.Aggregate' op grouping shape args span) le = le

pub under : (e : Expr) → Under (size-Expr e) e
under (E.Subquery' at of sight span) = within _ of (omega (arith, deep-Subquery' at of sight span))
under (E.Paren' at of span) = within _ of (omega (arith, deep-Paren' at of span))
under (E.Unary' minus at of span) = within _ of (omega (arith, deep-Unary' minus at of span))
under (E.Binary' op m at left there right span) = (within _ left (omega (arith, deep-Binary' op m at left there right span)), within _ right (omega (arith, deep-Binary' op m at left there right span)))
under (E.Number text span) = search rules
under (E.Str text span) = search rules
under (E.Selector name matchers sight span) = search rules
under (E.Call' name shape args span) = search rules
under (E.Aggregate' op grouping shape args span) = search rules
