-- The row of a scalar is the same in every environment.
use Rattle.std.proofs.Common.{◌≡◌, ℕ, Bool, true, false, ◌&&◌, cond, Option, Some, None, refl, sym, ◌∙◌, ap}
use Rattle.lf_ast.specs.Functions.{Signature, function_named}
use Rattle.lf_ast.specs.Tree.{Tree, Trees, Number, Str, Selector, Subquery, Paren, Unary, Binary, Call, Aggregate}
use Rattle.lf_ast.specs.Types.{is_scalar}
use Rattle.lf_ast.specs.declared.expr.ExprType.TheVariants.{Scalar, Vector}
use Rattle.lf_ast.specs.declared.expr.Grouping.{Grouping}
use Rattle.lf_ast.specs.declared.expr.Grouping.TheVariants.{None as Ungrouped}
use Rattle.lf_ast.specs.declared.expr.Matching.{Matching}
use Rattle.lf_ast.specs.declared.expr.Op.{Op}
use Rattle.lf_ast.specs.declared.functions.LabelEffect.{LabelEffect}
use Rattle.lf_ast.specs.declared.functions.LabelEffect.TheVariants.{Bare}
use Rattle.lf_laws.proofs.Booleans.{clash}
use Rattle.lf_semantics.proofs.ScalarCalls.{IsBareIfScalar, named_is_bare, selector_is_no_scalar}
use Rattle.lf_semantics.specs.ClassRows.{Sets}
use Rattle.lf_semantics.specs.Listing.{Listing}
use Rattle.lf_semantics.specs.Parts.{given_by, is_scalar_part}
use Rattle.lf_semantics.specs.RowTable.{Environment, bare_row, binary_row, call_row, effect_row, row_at, row_of, sign_row}

module _ (u : Listing) where
  -- the sample has no labels, whatever the operand is
  bare_effect : (effect : LabelEffect) (grouping : Grouping) (args : Trees) (row : Sets) → effect ≡ Bare → effect_row u effect grouping args row ≡ bare_row u
  bare_effect effect grouping args row e = ap (λ (made : LabelEffect). effect_row u made grouping args row) e

  -- a call that gives a scalar
  call_fixed : (o : Option Signature) → ((s : Signature) → o ≡ Some s → IsBareIfScalar s) → is_scalar (given_by o) ≡ true → (grouping : Grouping) (args : Trees) (rows others : ℕ → Sets)
      → call_row u o grouping args rows ≡ call_row u o grouping args others
  call_fixed None bare e grouping args rows others = absurd (cc)
  call_fixed (Some s) bare e grouping args rows others = bare_effect s.labels grouping args _ (bare s refl e) ∙ sym (bare_effect s.labels grouping args _ (bare s refl e))

  -- an operator is a scalar only between scalars
  sides_fixed : (op : Op) (m : Matching) (p q : Bool) (a b c d : Sets) → is_scalar (cond (p && q) Scalar Vector) ≡ true → binary_row u op m p q a b ≡ binary_row u op m p q c d
  sides_fixed op m true true a b c d e = refl
  sides_fixed op m true false a b c d e = absurd (cc)
  sides_fixed op m false true a b c d e = absurd (cc)
  sides_fixed op m false false a b c d e = absurd (cc)

-- the row of a scalar is the same in both
pub scalar_same : (u : Listing) (env other : Environment) (e : Tree) → is_scalar_part e ≡ true → row_of u env e ≡ row_of u other e
scalar_same u env other (Number text span) e = refl
scalar_same u env other (Str text span) e = refl
scalar_same u env other (Selector name matchers sight span) e = absurd (clash _ e (selector_is_no_scalar sight.range))
scalar_same u env other (Subquery of sight span) e = absurd (cc)
scalar_same u env other (Paren of span) e = scalar_same u env other of e
scalar_same u env other (Unary minus of span) e = ap (λ (x : Sets). sign_row u minus x) (scalar_same u env other of e)
scalar_same u env other (Binary op m left right span) e =
    sides_fixed u op m (is_scalar_part left) (is_scalar_part right) (row_of u env left) (row_of u env right) (row_of u other left) (row_of u other right) e
scalar_same u env other (Call name args span) e = call_fixed u (function_named name) (named_is_bare name) e Ungrouped args (row_at u env args) (row_at u other args)
scalar_same u env other (Aggregate op grouping args span) e = absurd (cc)
