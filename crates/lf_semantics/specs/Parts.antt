-- What is read off an expression: its type, which argument is the operand, and the selector that `absent` looks for.
use Rattle.std.specs.Prelude.{ℕ, zero, suc, Bool, true, false, cond, List, [], Option, Some, None, is_some, option_and_then, option_map}
use Rattle.std.specs.List.{position_or_len}
use Rattle.lf_ast.specs.Functions.{Signature, function_named}
use Rattle.lf_ast.specs.Tree.{Tree, Trees, Number, Str as Text, Selector, Subquery, Paren, Unary, Binary, Call, Aggregate, Nil, Next}
use Rattle.lf_ast.specs.Types.{is_scalar, joined, selected}
use Rattle.lf_ast.specs.declared.expr.ExprType.{ExprType}
use Rattle.lf_ast.specs.declared.expr.ExprType.TheVariants.{Str, Scalar, Vector, Range}
use Rattle.lf_ast.specs.declared.expr.Matcher.{Matcher}

-- types

abbrev pub given_by : Option Signature → ExprType
given_by None = Vector
given_by (Some s) = s.gives

-- the type of an expression that has one; of what has none nothing is claimed
abbrev pub type_by_form : Tree → ExprType
type_by_form (Number text span) = Scalar
type_by_form (Text text span) = Str
type_by_form (Selector name matchers sight span) = selected sight.range
type_by_form (Subquery of sight span) = Range
type_by_form (Paren of span) = type_by_form of
type_by_form (Unary minus of span) = type_by_form of
type_by_form (Binary op m left right span) = joined (type_by_form left) (type_by_form right)
type_by_form (Call name args span) = given_by (function_named name)
type_by_form (Aggregate op grouping args span) = Vector

-- the expression is a scalar
abbrev pub is_scalar_part : Tree → Bool
is_scalar_part e = is_scalar (type_by_form e)

-- what is found in an expression, but nothing where it is a scalar
abbrev pub outside_scalars : {X : Type 0} → Tree → List X → List X
outside_scalars e found = cond (is_scalar_part e) [] found

-- a rule of the type can be evaluated: of a scalar or a vector, and not of a string or a range vector
abbrev pub is_evaluated : ExprType → Bool
is_evaluated Scalar = true
is_evaluated Vector = true
is_evaluated Str = false
is_evaluated Range = false

-- arguments

-- argument k, counted from 0
abbrev pub argument_at : Trees → ℕ → Option Tree
argument_at Nil k = None
argument_at (Next x xs) zero = Some x
argument_at (Next x xs) (suc k) = argument_at xs k

abbrev pub takes_samples : ExprType → Bool
takes_samples Vector = true
takes_samples Range = true
takes_samples Scalar = false
takes_samples Str = false

-- the operand is the first argument that is a vector or a range vector, or else the first further argument: a function of dates has its only one there
abbrev pub operand_place : Signature → ℕ
operand_place s = position_or_len takes_samples s.takes

-- `absent`

-- the matchers of a selector, and whether it stands in parentheses or has an `@`: then the sample of `absent` may also have no label
pub record Sought : Type 0 where
  pub matchers : List Matcher
  pub may_be_bare : Bool

-- the selector that an `absent` function looks for; none where its argument is no selector
abbrev pub sought_by : Tree → Option Sought
sought_by (Selector name matchers sight span) = Some (record { matchers = matchers; may_be_bare = is_some sight.at })
sought_by (Paren of span) = option_map (λ sought. record { matchers = sought.matchers; may_be_bare = true }) (sought_by of)
sought_by _ = None

-- the same of its arguments, of which it takes one
abbrev pub sought_in : Trees → Option Sought
sought_in args = option_and_then sought_by (argument_at args 0)
