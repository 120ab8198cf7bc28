-- What is told of an expression is told of its parts.
use Rattle.std.proofs.Common.{◌≡◌, Bool, true, false, not, ◌&&◌, ◌||◌, cond, List, [], ◌∷◌, map, Option, Some, None, refl, sym, ap}
use Rattle.std.specs.List.{list_any}
use Rattle.lf_base.specs.declared.place.Span.{Span}
use Rattle.lf_ast.specs.Functions.{function_named}
use Rattle.lf_ast.specs.Labels.{Bytes}
use Rattle.lf_ast.specs.Selectors.{selected_name}
use Rattle.lf_ast.specs.Tree.{Tree, Trees, Selector, Paren, Binary, Call, Aggregate, Nil, Next, list}
use Rattle.lf_ast.specs.Types.{is_scalar, selected}
use Rattle.lf_ast.specs.declared.expr.Agg.{Agg}
use Rattle.lf_ast.specs.declared.expr.ExprType.TheVariants.{Scalar, Vector}
use Rattle.lf_ast.specs.declared.expr.Grouping.{Grouping}
use Rattle.lf_ast.specs.declared.expr.Matcher.{Matcher}
use Rattle.lf_ast.specs.declared.expr.Matching.{Matching}
use Rattle.lf_ast.specs.declared.expr.Op.{Op}
use Rattle.lf_ast.specs.declared.expr.Sight.{Sight}
use Rattle.lf_semantics.specs.Parts.{given_by, is_scalar_part}
use Rattle.lf_trials.specs.Forks.{has_passing, is_or, passes_in, passes_in_arguments}
use Rattle.lf_forks.specs.declared.holding.Held.{Held}
use Rattle.lf_forks.specs.views.Holding.{beside, called, holds}
use Rattle.lf_forks.specs.views.NameMarks.{NameMarks, has_mark}

abbrev told : Bool → Bool → Held
told scalar found = record { scalar = scalar; found = found }

twice : (b p : Bool) → (not b && (not b && p)) ≡ (not b && p)
twice true p = refl
twice false p = refl

module _ (marks : NameMarks) where
  pub of_selector : (name : Option Bytes) (matchers : List Matcher) (sight : Sight) (span : Span) → told false (has_mark marks (selected_name name matchers)) ≡ holds marks (Selector name matchers sight span)
  of_selector name matchers sight span = by sight.range
    where
      by : (range : Option Bytes) → told false (has_mark marks (selected_name name matchers)) ≡ told (is_scalar (selected range)) (not (is_scalar (selected range)) && has_mark marks (selected_name name matchers))
      by None = refl
      by (Some duration) = refl

  pub of_paren : (of : Tree) (span : Span) → holds marks of ≡ holds marks (Paren of span)
  of_paren of span = ap (told (is_scalar_part of)) (sym (twice (is_scalar_part of) (passes_in (has_mark marks) of)))

  pub of_operator : (op : Op) (m : Matching) (left right : Tree) (span : Span) → beside op (holds marks left) (holds marks right) ≡ holds marks (Binary op m left right span)
  of_operator op m left right span = by (is_scalar_part left) (is_scalar_part right)
    where
      x : Bool
      x = has_passing (has_mark marks) left

      y : Bool
      y = has_passing (has_mark marks) right

      by : (p q : Bool) → told (p && q) (not (p && q) && (is_or op || (x || y))) ≡ told (is_scalar (cond (p && q) Scalar Vector)) (not (is_scalar (cond (p && q) Scalar Vector)) && (is_or op || (x || y)))
      by true true = refl
      by true false = refl
      by false true = refl
      by false false = refl

  of_arguments : (args : Trees) → list_any (λ (h : Held). h.found) (map (holds marks) (list args)) ≡ passes_in_arguments (has_mark marks) args
  of_arguments Nil = refl
  of_arguments (Next x xs) = ap (λ (b : Bool). has_passing (has_mark marks) x || b) (of_arguments xs)

  pub of_call : (name : Bytes) (args : Trees) (span : Span) → called (is_scalar (given_by (function_named name))) (map (holds marks) (list args)) ≡ holds marks (Call name args span)
  of_call name args span = ap (λ (b : Bool). told (is_scalar (given_by (function_named name))) (not (is_scalar (given_by (function_named name))) && b)) (of_arguments args)

  pub of_aggregation : (op : Agg) (grouping : Grouping) (args : Trees) (span : Span) → called false (map (holds marks) (list args)) ≡ holds marks (Aggregate op grouping args span)
  of_aggregation op grouping args span = ap (told false) (of_arguments args)

  -- of several expressions
  pub found_in_each : (es : List Tree) → map (λ (h : Held). h.found) (map (holds marks) es) ≡ map (has_passing (has_mark marks)) es
  found_in_each [] = refl
  found_in_each (e ∷ es) = ap (λ (found : List Bool). has_passing (has_mark marks) e ∷ found) (found_in_each es)

  pub scalar_in_each : (es : List Tree) → map (λ (h : Held). h.scalar) (map (holds marks) es) ≡ map is_scalar_part es
  scalar_in_each [] = refl
  scalar_in_each (e ∷ es) = ap (λ (scalars : List Bool). is_scalar_part e ∷ scalars) (scalar_in_each es)
