-- A way of judging types in one pass over an expression. It defines nothing: what it answers is proved to be the type, or the breach that is told.
use Rattle.std.specs.Prelude.{ℕ, ◌+◌, Bool, true, false, ◌&&◌, ◌||◌, cond, List, Option, Some, None, Result, Ok, Err}
use Rattle.lf_base.specs.Faults.{fault, first, when}
use Rattle.lf_base.specs.declared.kind.Kind.TheVariants.{BadDuration, WrongType, UnknownName, WrongCount, BadModifier, BadLabel}
use Rattle.lf_base.specs.declared.place.Span.{Span}
use Rattle.lf_ast.specs.Functions.{Signature, aggregation, function_named, signature_of}
use Rattle.lf_ast.specs.Types.{is_bad_label, is_empty_range, is_misplaced, is_number, is_unfit, is_vector, joined, names_a_label, selected, string_of, takes_count, takes_side, wanted}
use Rattle.lf_base.specs.declared.fault.Fault.{Fault}
use Rattle.lf_ast.specs.Tree.{Tree, Trees, Number, Str as Text, Selector, Subquery, Paren, Unary, Binary, Call, Aggregate, Nil, Next, count, span_of}
use Rattle.lf_ast.specs.declared.expr.ExprType.{ExprType}
use Rattle.lf_ast.specs.declared.expr.ExprType.TheVariants.{Str, Scalar, Vector, Range}
use Rattle.lf_ast.specs.declared.expr.Matching.{Matching}
use Rattle.lf_ast.specs.declared.expr.Op.{Op}
use Rattle.lf_ast.specs.declared.expr.Sight.{Sight}
use Rattle.lf_ast.specs.declared.functions.Function.{Function}

-- the type, or the breach that is told
abbrev pub Judged : Type 0
Judged = Result ExprType Fault

-- a breach, or else what was judged
abbrev pub unless : Option Fault → Judged → Judged
unless None judged = judged
unless (Some f) judged = Err f

abbrev pub range_fault : Sight → Option Fault
range_fault sight = when (is_empty_range sight.range) (fault BadDuration sight.range_span)

-- the breach of an operand, which may be that its type isn't taken
abbrev pub side_fault : (ExprType → Bool) → Span → Judged → Option Fault
side_fault takes span (Err f) = Some f
side_fault takes span (Ok t) = cond (takes t) None (Some (fault WrongType span))

abbrev pub is_unfit_at : Op → Matching → Judged → Judged → Bool
is_unfit_at op m (Ok l) (Ok r) = is_unfit op m l r
is_unfit_at op m _ _ = false

abbrev pub joined_at : Judged → Judged → ExprType
joined_at (Ok l) (Ok r) = joined l r
joined_at _ _ = Vector

abbrev pub binary_judged : Op → Matching → Span → Span → Judged → Span → Judged → Judged
binary_judged op m span left_span left right_span right =
    unless (first (first (side_fault (takes_side op) left_span left) (side_fault (takes_side op) right_span right)) (when (is_misplaced op m || is_unfit_at op m left right) (fault BadModifier span)))
    (Ok (joined_at left right))

-- a call of the program by its signature
abbrev pub call_of : Result Function Fault → Result Signature Fault
call_of (Ok function) = Ok (signature_of function)
call_of (Err f) = Err f

-- a call by its signature, or what is wrong with its name and the number of its arguments
abbrev pub counted : Signature → ℕ → Span → Result Signature Fault
counted s n span = cond (takes_count s n) (Ok s) (Err (fault WrongCount span))

abbrev pub called : Option Signature → ℕ → Span → Result Signature Fault
called None n span = Err (fault UnknownName span)
called (Some s) n span = counted s n span

abbrev pub is_type : ExprType → ExprType → Bool
is_type Str Str = true
is_type Scalar Scalar = true
is_type Vector Vector = true
is_type Range Range = true
is_type _ _ = false

abbrev pub is_wanted : Option ExprType → ExprType → Bool
is_wanted None t = false
is_wanted (Some u) t = is_type u t

-- the breach of an argument, which may be its type or that it names no label
abbrev pub argument_fault : Result Signature Fault → ℕ → Span → Option (List ℕ) → Judged → Option Fault
argument_fault call k span text (Err f) = Some f
argument_fault (Err own) k span text (Ok t) = None
argument_fault (Ok s) k span text (Ok t) = cond (is_wanted (wanted s k) t) (when (names_a_label s.labels k && is_bad_label text) (fault BadLabel span)) (Some (fault WrongType span))

abbrev pub own_fault : Result Signature Fault → Option Fault
own_fault (Ok s) = None
own_fault (Err f) = Some f

abbrev pub given : Result Signature Fault → Judged
given (Ok s) = Ok s.gives
given (Err f) = Err f

abbrev mutual
  pub judged : Tree → Judged
  judged (Number text span) = Ok Scalar
  judged (Text text span) = Ok Str
  judged (Selector name matchers sight span) = unless (range_fault sight) (Ok (selected sight.range))
  judged (Subquery of sight span) = unless (first (side_fault is_vector (span_of of) (judged of)) (range_fault sight)) (Ok Range)
  judged (Paren of span) = judged of
  judged (Unary minus of span) = unless (side_fault is_number (span_of of) (judged of)) (judged of)
  judged (Binary op m left right span) = binary_judged op m span (span_of left) (judged left) (span_of right) (judged right)
  judged (Call name args span) = let call = called (function_named name) (count args) span in unless (arguments_fault args call (own_fault call) 0) (given call)
  judged (Aggregate op grouping args span) = let call = counted (aggregation op) (count args) span in unless (arguments_fault args call (own_fault call) 0) (given call)

  -- of the breach so far and those of the arguments, of which the first is argument k, the one that is told
  pub arguments_fault : Trees → Result Signature Fault → Option Fault → ℕ → Option Fault
  arguments_fault Nil call so_far k = so_far
  arguments_fault (Next x xs) call so_far k = arguments_fault xs call (first so_far (argument_fault call k (span_of x) (string_of x) (judged x))) (k + 1)

abbrev pub call_judged : Result Signature Fault → Trees → Judged
call_judged call args = unless (arguments_fault args call (own_fault call) 0) (given call)
