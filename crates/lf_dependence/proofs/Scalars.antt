-- A scalar gives the same over any samples, whatever selectors stand in it.
use Rattle.std.proofs.Common.{◌≡◌, ℕ, Bool, true, false, ◌&&◌, cond, List, Option, Some, None, refl, sym, subst}
use Rattle.lf_laws.proofs.Booleans.{clash}
use Rattle.lf_ast.specs.Functions.{Signature, function_named}
use Rattle.lf_ast.specs.Labels.{Labels}
use Rattle.lf_ast.specs.Tree.{Tree, Trees, Number, Str, Selector, Subquery, Paren, Unary, Binary, Call, Aggregate}
use Rattle.lf_ast.specs.Types.{is_scalar}
use Rattle.lf_ast.specs.declared.expr.ExprType.TheVariants.{Scalar, Vector}
use Rattle.lf_ast.specs.declared.expr.Grouping.{Grouping}
use Rattle.lf_ast.specs.declared.expr.Grouping.TheVariants.{None as Ungrouped}
use Rattle.lf_ast.specs.declared.expr.Matching.{Matching}
use Rattle.lf_ast.specs.declared.expr.Op.{Op}
use Rattle.lf_ast.specs.declared.functions.LabelEffect.{LabelEffect}
use Rattle.lf_semantics.specs.Parts.{given_by, is_scalar_part, operand_place}
use Rattle.lf_witness.specs.Strict.{ArgumentStrictlyEvaluates, Outcomes, StrictBinary, StrictCall, StrictEffect, StrictlyEvaluates}
use Rattle.lf_semantics.proofs.ScalarCalls.{IsBareIfScalar, named_is_bare, selector_is_no_scalar}
use Rattle.lf_witness.proofs.SameSamples.{Into, sign_into}

-- a call that gives a scalar doesn't look at its arguments
of_scalar_call : (o : Option Signature) → ((s : Signature) → o ≡ Some s → IsBareIfScalar s) → is_scalar (given_by o) ≡ true → (grouping : Grouping) (args : Trees) (f g : ℕ → Outcomes)
    → Into (StrictCall o grouping args f) (StrictCall o grouping args g)
of_scalar_call None bare e grouping args f g = λ o is. is
of_scalar_call (Some s) bare e grouping args f g =
    subst (λ (effect : LabelEffect). Into (StrictEffect effect grouping args (f (operand_place s))) (StrictEffect effect grouping args (g (operand_place s)))) (sym (bare s refl e)) (λ o is. is)

-- an operator is a scalar only between scalars
of_scalar_sides : (op : Op) (m : Matching) (p q : Bool) → is_scalar (cond (p && q) Scalar Vector) ≡ true → (left left_too right right_too : Outcomes) → Into (StrictBinary op m p q left right) (StrictBinary op m p q left_too right_too)
of_scalar_sides op m true true e left left_too right right_too = λ o is. is
of_scalar_sides op m true false e left left_too right right_too = absurd (cc)
of_scalar_sides op m false true e left left_too right right_too = absurd (cc)
of_scalar_sides op m false false e left left_too right right_too = absurd (cc)

module _ (W V : List Labels) where
  pub of_scalar : (e : Tree) → is_scalar_part e ≡ true → Into (StrictlyEvaluates W e) (StrictlyEvaluates V e)
  of_scalar (Number text span) is = λ o given. given
  of_scalar (Str text span) is = λ o given. given
  of_scalar (Selector name matchers sight span) is = absurd (clash _ is (selector_is_no_scalar sight.range))
  of_scalar (Subquery of sight span) is = absurd (cc)
  of_scalar (Paren of span) is = of_scalar of is
  of_scalar (Unary minus of span) is = sign_into (StrictlyEvaluates W of) (StrictlyEvaluates V of) (of_scalar of is) minus
  of_scalar (Binary op m left right span) is = of_scalar_sides op m (is_scalar_part left) (is_scalar_part right) is (StrictlyEvaluates W left) (StrictlyEvaluates V left) (StrictlyEvaluates W right) (StrictlyEvaluates V right)
  of_scalar (Call name args span) is = of_scalar_call (function_named name) (named_is_bare name) is Ungrouped args (ArgumentStrictlyEvaluates W args) (ArgumentStrictlyEvaluates V args)
  of_scalar (Aggregate op grouping args span) is = absurd (cc)
