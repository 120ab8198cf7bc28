-- What is wrong with the types of an expression, and where; and which of several breaches is told.
use Rattle.std.specs.Prelude.{◌≡◌, ◌≢◌, ◌⊎◌, ℕ, ◌+◌, Bool, true, false, ◌&&◌, Some, None}
use Rattle.lf_base.specs.declared.kind.Kind.TheVariants.{BadDuration, WrongType, UnknownName, WrongCount, BadModifier, BadLabel}
use Rattle.lf_base.specs.Faults.{IsTold, fault}
use Rattle.lf_base.specs.declared.place.Span.{Span}
use Rattle.lf_ast.specs.Functions.{Signature, aggregation, function_named}
use Rattle.lf_ast.specs.Types.{HasType, is_bad_label, is_empty_range, is_misplaced, is_number, is_unfit, is_vector, names_a_label, string_of, takes_count, takes_side, wanted}
use Rattle.lf_ast.specs.Tree.{Tree, Trees, Number, Str, Selector, Subquery, Paren, Unary, Binary, Call, Aggregate, Nil, Next, count, span_of}
use Rattle.lf_ast.specs.declared.expr.ExprType.{ExprType}
use Rattle.lf_ast.specs.declared.expr.Matching.{Matching}
use Rattle.lf_ast.specs.declared.expr.Op.{Op}
use Rattle.lf_ast.specs.declared.expr.Sight.{Sight}
use Rattle.lf_base.specs.declared.fault.Fault.{Fault}

-- the range has no length
abbrev pub IsEmptyRange : Sight → Fault → Type 0
IsEmptyRange sight f = (is_empty_range sight.range ≡ true) × (f ≡ fault BadDuration sight.range_span)

-- an operand that has a type, and none of those that are taken
abbrev pub IsOther : (ExprType → Bool) → Tree → Fault → Type 0
IsOther takes e f = (t : ExprType) × HasType e t × (takes t ≡ false) × (f ≡ fault WrongType (span_of e))

-- a modifier that can't stand at the operator; where this depends on the sides, both have types
abbrev pub IsBadModifier : Op → Matching → Tree → Tree → Span → Fault → Type 0
IsBadModifier op m left right span f =
    ((is_misplaced op m ≡ true) ⊎ ((l r : ExprType) × HasType left l × HasType right r × (is_unfit op m l r ≡ true))) × (f ≡ fault BadModifier span)

-- argument k, which has a type: it has another than is wanted, or it is a string where a label's name is wanted, and none
abbrev pub IsBadArgument : Signature → ℕ → Tree → Fault → Type 0
IsBadArgument s k e f =
    (t : ExprType) × HasType e t
    × (((wanted s k ≢ Some t) × (f ≡ fault WrongType (span_of e)))
    ⊎ ((wanted s k ≡ Some t) × ((names_a_label s.labels k && is_bad_label (string_of e)) ≡ true) × (f ≡ fault BadLabel (span_of e))))

-- one of the arguments, of which the first is argument k, is bad
abbrev pub HasBadArgument : Trees → Signature → ℕ → Fault → Type 0
HasBadArgument Nil s k f = ⊥
HasBadArgument (Next x xs) s k f = IsBadArgument s k x f ⊎ HasBadArgument xs s (k + 1) f

-- a call of this signature takes another number of arguments, or it takes as many, and one of them is bad
abbrev pub IsBadCall : Trees → Span → Signature → Fault → Type 0
IsBadCall args span s f = ((takes_count s (count args) ≡ false) × (f ≡ fault WrongCount span)) ⊎ ((takes_count s (count args) ≡ true) × HasBadArgument args s 0 f)

abbrev mutual
  -- the expression has this breach, in itself or in a part
  pub Breaks : Tree → Fault → Type 0
  Breaks (Number text span) f = ⊥
  Breaks (Str text span) f = ⊥
  Breaks (Selector name matchers sight span) f = IsEmptyRange sight f
  Breaks (Subquery of sight span) f = Breaks of f ⊎ (IsOther is_vector of f ⊎ IsEmptyRange sight f)
  Breaks (Paren of span) f = Breaks of f
  Breaks (Unary minus of span) f = Breaks of f ⊎ IsOther is_number of f
  Breaks (Binary op m left right span) f =
      Breaks left f ⊎ (IsOther (takes_side op) left f ⊎ (Breaks right f ⊎ (IsOther (takes_side op) right f ⊎ IsBadModifier op m left right span f)))
  Breaks (Call name args span) f =
      BreaksAny args f
      ⊎ (((function_named name ≡ None) × (f ≡ fault UnknownName span))
      ⊎ ((s : Signature) × (function_named name ≡ Some s) × IsBadCall args span s f))
  Breaks (Aggregate op grouping args span) f = BreaksAny args f ⊎ IsBadCall args span (aggregation op) f

  -- a breach inside one of the arguments
  pub BreaksAny : Trees → Fault → Type 0
  BreaksAny Nil f = ⊥
  BreaksAny (Next x xs) f = Breaks x f ⊎ BreaksAny xs f

-- the breach that is told
abbrev pub Tells : Tree → Fault → Type 0
Tells e f = IsTold (Breaks e) f
