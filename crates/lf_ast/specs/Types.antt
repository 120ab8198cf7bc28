-- Which type an expression has.
use Rattle.std.specs.Prelude.{◌≡◌, ℕ, ◌+◌, ◌==◌, nat_le, Bool, true, false, not, ◌&&◌, ◌||◌, cond, List, [], ◌∷◌, length, Option, Some, None, slice_get}
use Rattle.std.specs.Char.{is_ascii_digit}
use Rattle.std.specs.List.{list_all, list_any}
use Rattle.std.specs.Str.{bytes_eq}
use Rattle.lf_base.specs.Names.{is_label_name}
use Rattle.lf_ast.specs.Labels.{Bytes}
use Rattle.lf_ast.specs.Functions.{Signature, aggregation, function_named}
use Rattle.lf_ast.specs.Tree.{Tree, Trees, Number, Str as Text, Selector, Subquery, Paren, Unary, Binary, Call, Aggregate, Nil, Next, count}
use Rattle.lf_ast.specs.declared.expr.ExprType.{ExprType}
use Rattle.lf_ast.specs.declared.expr.ExprType.TheVariants.{Str, Scalar, Vector, Range}
use Rattle.lf_ast.specs.declared.expr.Group.{Group}
use Rattle.lf_ast.specs.declared.expr.Group.TheVariants.{One as Ungrouped}
use Rattle.lf_ast.specs.declared.expr.Matching.{Matching}
use Rattle.lf_ast.specs.declared.expr.Name.{Name}
use Rattle.lf_ast.specs.declared.expr.Op.{Op}
use Rattle.lf_ast.specs.declared.expr.Op.TheVariants.{Equal, NotEqual, LessOrEqual, Less, GreaterOrEqual, Greater, And, Or, Unless}
use Rattle.lf_ast.specs.declared.operands.Operands.{Operands}
use Rattle.lf_ast.specs.declared.operands.Operands.TheVariants.{Vectors, Numbers}
use Rattle.lf_ast.specs.declared.functions.Further.{Further}
use Rattle.lf_ast.specs.declared.functions.Further.TheVariants.{None as Nothing, One, Any}
use Rattle.lf_ast.specs.declared.functions.LabelEffect.{LabelEffect}
use Rattle.lf_ast.specs.declared.functions.LabelEffect.TheVariants.{CountValues, LabelReplace, LabelJoin}

-- types

abbrev pub is_scalar : ExprType → Bool
is_scalar Scalar = true
is_scalar _ = false

abbrev pub is_vector : ExprType → Bool
is_vector Vector = true
is_vector _ = false

-- a scalar or a vector
abbrev pub is_number : ExprType → Bool
is_number t = is_scalar t || is_vector t

-- what is taken as an operand: vectors, or scalars too
abbrev pub takes : Operands → ExprType → Bool
takes Vectors t = is_vector t
takes Numbers t = is_number t

-- ranges

-- each digit of a duration is 0
abbrev pub is_zero : Bytes → Bool
is_zero duration = list_all (λ b. not (is_ascii_digit b) || b == 48) duration

-- there is a range, and it has no length
abbrev pub is_empty_range : Option Bytes → Bool
is_empty_range None = false
is_empty_range (Some duration) = is_zero duration

-- a selector is a vector, and with a range a range vector
abbrev pub selected : Option Bytes → ExprType
selected None = Vector
selected (Some duration) = Range

-- operators

abbrev pub is_set_operator : Op → Bool
is_set_operator And = true
is_set_operator Or = true
is_set_operator Unless = true
is_set_operator _ = false

abbrev pub is_comparison : Op → Bool
is_comparison Equal = true
is_comparison NotEqual = true
is_comparison LessOrEqual = true
is_comparison Less = true
is_comparison GreaterOrEqual = true
is_comparison Greater = true
is_comparison _ = false

-- what an operator takes on either side: a set operator vectors, and any other scalars too
abbrev pub operands_of : Op → Operands
operands_of op = cond (is_set_operator op) Vectors Numbers

abbrev pub takes_side : Op → ExprType → Bool
takes_side op t = takes (operands_of op) t

-- two scalars give a scalar, and else the result is a vector
abbrev pub joined : ExprType → ExprType → ExprType
joined left right = cond (is_scalar left && is_scalar right) Scalar Vector

-- modifiers

abbrev pub is_grouped : Group → Bool
is_grouped Ungrouped = false
is_grouped _ = true

abbrev pub names_at : Option (List Name) → List Name
names_at None = []
names_at (Some names) = names

abbrev pub is_among : List Name → Bytes → Bool
is_among names text = list_any (λ name. bytes_eq text name.text) names

-- the two lists have a label in common
abbrev pub share_a_label : List Name → List Name → Bool
share_a_label names others = list_any (λ name. is_among names name.text) others

-- the list is there and names a label
abbrev pub names_labels : Option (List Name) → Bool
names_labels (Some (name ∷ names)) = true
names_labels _ = false

-- a modifier that can't stand at this operator, whatever the sides are: `bool` on what is no comparison, a group modifier on a set operator, and a label that is
-- both in `on` and in the list of the group modifier
abbrev pub is_misplaced : Op → Matching → Bool
is_misplaced op m = (m.bool_mod && not (is_comparison op)) || (is_grouped m.group && is_set_operator op) || share_a_label (names_at m.on) m.include

-- a modifier that doesn't fit sides of these types: two scalars are compared without `bool`, or `on` or `ignoring` names a label and the sides aren't two vectors
abbrev pub is_unfit : Op → Matching → ExprType → ExprType → Bool
is_unfit op m left right =
    (is_comparison op && not m.bool_mod && is_scalar left && is_scalar right)
    || ((names_labels m.on || names_labels m.ignoring) && not (is_vector left && is_vector right))

-- labels in strings

-- the text of a string, which may stand in parentheses; none of any other expression
abbrev pub string_of : Tree → Option Bytes
string_of (Text text span) = Some text
string_of (Paren of span) = string_of of
string_of _ = None

-- it is a string, and its text is no label name
abbrev pub is_bad_label : Option Bytes → Bool
is_bad_label None = false
is_bad_label (Some text) = not (is_label_name text)

-- arguments, which are counted from 0

-- the arguments that name a label: of `label_replace` the second, of `label_join` the second and the fourth and all behind it, of `count_values` the first
abbrev pub names_a_label : LabelEffect → ℕ → Bool
names_a_label LabelReplace k = k == 1
names_a_label LabelJoin k = (k == 1) || nat_le 3 k
names_a_label CountValues k = k == 0
names_a_label _ k = false

abbrev pub further_type : Further → Option ExprType
further_type Nothing = None
further_type (One type) = Some type
further_type (Any type) = Some type

abbrev pub type_or : Option ExprType → Option ExprType → Option ExprType
type_or (Some type) further = Some type
type_or None further = further

-- the type of argument k
abbrev pub wanted : Signature → ℕ → Option ExprType
wanted s k = type_or (slice_get s.takes k) (further_type s.further)

abbrev pub takes_further : Further → ℕ → ℕ → Bool
takes_further Nothing least n = n == least
takes_further (One type) least n = (n == least) || (n == least + 1)
takes_further (Any type) least n = nat_le least n

-- n arguments are as many as are taken
abbrev pub takes_count : Signature → ℕ → Bool
takes_count s n = takes_further s.further (length s.takes) n

-- the relation

-- a call of n arguments, which fit, by a signature
abbrev pub CallHasType : ℕ → (Signature → ℕ → Type 0) → Signature → ExprType → Type 0
CallHasType n fit s t = (takes_count s n ≡ true) × fit s 0 × (t ≡ s.gives)

abbrev mutual
  -- the expression has this type
  pub HasType : Tree → ExprType → Type 0
  HasType (Number text span) t = t ≡ Scalar
  HasType (Text text span) t = t ≡ Str
  HasType (Selector name matchers sight span) t = (is_empty_range sight.range ≡ false) × (t ≡ selected sight.range)
  HasType (Subquery of sight span) t = HasType of Vector × (is_empty_range sight.range ≡ false) × (t ≡ Range)
  HasType (Paren of span) t = HasType of t
  HasType (Unary minus of span) t = HasType of t × (is_number t ≡ true)
  HasType (Binary op m left right span) t =
      (l r : ExprType) × HasType left l × HasType right r × (takes_side op l ≡ true) × (takes_side op r ≡ true)
      × (is_misplaced op m ≡ false) × (is_unfit op m l r ≡ false) × (t ≡ joined l r)
  HasType (Call name args span) t = (s : Signature) × (function_named name ≡ Some s) × CallHasType (count args) (Fit args) s t
  HasType (Aggregate op grouping args span) t = CallHasType (count args) (Fit args) (aggregation op) t

  -- each argument, of which the first is argument k, has the type that is wanted of it, and names a label where one is wanted
  pub Fit : Trees → Signature → ℕ → Type 0
  Fit Nil s k = Unit {0}
  Fit (Next x xs) s k = ((t : ExprType) × (wanted s k ≡ Some t) × HasType x t × ((names_a_label s.labels k && is_bad_label (string_of x)) ≡ false)) × Fit xs s (k + 1)
