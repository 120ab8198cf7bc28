use Rattle.std.proofs.Common.{◌≡◌, Bool, true, false, not, ◌&&◌, cond, Option, Some, None, refl, sym, ◌∙◌, ap}
use Rattle.std.specs.Prelude.{is_some}
use Rattle.lf_ast.specs.Functions.{function_named}
use Rattle.lf_ast.specs.Labels.{Bytes}
use Rattle.lf_ast.specs.Tree.{tree}
use Rattle.lf_ast.specs.Types.{is_scalar, joined, selected}
use Rattle.lf_ast.specs.declared.expr.Expr.{Expr}
use Rattle.lf_ast.specs.declared.expr.ExprType.{ExprType}
use Rattle.lf_ast.specs.declared.expr.ExprType.TheVariants.{Scalar, Vector}
use Rattle.lf_semantics.specs.Parts.{given_by, is_evaluated, type_by_form}
use Rattle.lf_fix.proofs.recording.is_evaluated.Goals as goal

abbrev evaluated : Expr → Bool
evaluated e = is_evaluated (type_by_form (tree e))

without_range : (range : Option Bytes) (none : Bool) → is_some range ≡ not none → none ≡ is_evaluated (selected range)
without_range None true e = refl
without_range None false e = absurd (cc)
without_range (Some range) true e = absurd (cc)
without_range (Some range) false e = refl

of_two : (left right : ExprType) → true ≡ is_evaluated (joined left right)
of_two left right = elim (is_scalar left && is_scalar right) as (λ b. true ≡ is_evaluated (cond b Scalar Vector)) [ true ↦ refl | false ↦ refl ]

pub returns-in-Number : goal.returns-in-Number
returns-in-Number c = sym (ap evaluated c.in-Number.is) ∙ c.loop-inner.invariant

pub returns-in-Str : goal.returns-in-Str
returns-in-Str c = sym (ap evaluated c.in-Str.is) ∙ c.loop-inner.invariant

pub returns-in-Selector : goal.returns-in-Selector
returns-in-Selector c = without_range c.in-Selector.sight.range c.is_none.result c.is_none.ensures ∙ sym (ap evaluated c.in-Selector.is) ∙ c.loop-inner.invariant

pub returns-in-Subquery : goal.returns-in-Subquery
returns-in-Subquery c = sym (ap evaluated c.in-Subquery.is) ∙ c.loop-inner.invariant

pub returns-in-Binary : goal.returns-in-Binary
returns-in-Binary c = let s = c.in-Binary in of_two (type_by_form (tree s.left.value)) (type_by_form (tree s.right.value)) ∙ sym (ap evaluated s.is) ∙ c.loop-inner.invariant

pub returns-in-Call : goal.returns-in-Call
returns-in-Call c = c.gives_samples.ensures ∙ ap (λ (name : Bytes). is_evaluated (given_by (function_named name))) c.as_str.ensures ∙ sym (ap evaluated c.in-Call.is) ∙ c.loop-inner.invariant

pub returns-in-Aggregate : goal.returns-in-Aggregate
returns-in-Aggregate c = sym (ap evaluated c.in-Aggregate.is) ∙ c.loop-inner.invariant
