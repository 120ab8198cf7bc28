-- The definitions of types and breaches on worked expressions. Each is judged by computation, and what is judged is the type, or the breach that is told.
use Rattle.std.proofs.Common.{ℕ, [], false, Some, None, List, codes, refl}
use Rattle.lf_base.specs.declared.kind.Kind.TheVariants.{BadDuration, WrongType, UnknownName, WrongCount, BadModifier}
use Rattle.lf_base.specs.declared.place.Span.{Span}
use Rattle.lf_base.specs.Faults.{fault, span, told_order}
use Rattle.lf_ast.specs.Breaches.{Tells}
use Rattle.lf_ast.specs.Functions.{function_named, functions}
use Rattle.lf_ast.specs.Tree.{Tree, Number, Str, Selector, Paren, Binary, Call, Aggregate, Nil, Next}
use Rattle.lf_ast.specs.Types.{HasType}
use Rattle.lf_ast.specs.declared.expr.Agg.TheVariants.{Sum}
use Rattle.lf_ast.specs.declared.expr.ExprType.TheVariants.{Scalar}
use Rattle.lf_ast.specs.declared.expr.Group.TheVariants.{One}
use Rattle.lf_ast.specs.declared.expr.Grouping.TheVariants.{None as Ungrouped}
use Rattle.lf_ast.specs.declared.expr.Matching.{Matching}
use Rattle.lf_ast.specs.declared.expr.Op.TheVariants.{Add, And, Greater}
use Rattle.lf_ast.specs.declared.expr.Sight.{Sight}
use Rattle.lf_ast.proofs.Judged.{has_judged, tells_judged}

-- no modifier
abbrev plain : Matching
plain = record { bool_mod = false; on = None; ignoring = None; group = One; include = []; span = span 0 0 }

abbrev ranged : List ℕ → Sight
ranged duration = record { range = Some duration; step = None; offset = None; at = None; range_span = span 6 8 }

-- `1`
abbrev number : Span → Tree
number at = Number (codes "1") at

-- `"x"`
abbrev text : Span → Tree
text at = Str (codes "x") at

-- `a[DURATION]`
abbrev range : List ℕ → Span → Tree
range duration at = Selector (Some (codes "a")) [] (ranged duration) at

-- `nope(1)`
abbrev unknown : Tree
unknown = Call (codes "nope") (Next (number (span 11 12)) Nil) (span 6 10)

-- `(1) + 1` is a scalar
sum_of_scalars : HasType (Binary Add plain (Paren (number (span 1 2)) (span 0 3)) (number (span 6 7)) (span 4 5)) Scalar
sum_of_scalars = has_judged (Binary Add plain (Paren (number (span 1 2)) (span 0 3)) (number (span 6 7)) (span 4 5)) Scalar refl

-- `nope(1)` is refused at the name
unknown_is_told : Tells unknown (fault UnknownName (span 6 10))
unfolding function_named functions told_order
unknown_is_told = tells_judged unknown (fault UnknownName (span 6 10)) refl

-- `sum("x")` is refused at the string
sum_of_a_string : Tells (Aggregate Sum Ungrouped (Next (text (span 4 7)) Nil) (span 0 3)) (fault WrongType (span 4 7))
sum_of_a_string = tells_judged (Aggregate Sum Ungrouped (Next (text (span 4 7)) Nil) (span 0 3)) (fault WrongType (span 4 7)) refl

-- `sum(1, 1)` is refused at the word, and not at the arguments, which are no vectors
two_are_too_many : Tells (Aggregate Sum Ungrouped (Next (number (span 4 5)) (Next (number (span 7 8)) Nil)) (span 0 3)) (fault WrongCount (span 0 3))
two_are_too_many = tells_judged (Aggregate Sum Ungrouped (Next (number (span 4 5)) (Next (number (span 7 8)) Nil)) (span 0 3)) (fault WrongCount (span 0 3)) refl

-- `abs(a[0s])` is refused at the duration: the argument has no type, so it has no wrong one
empty_range_is_told : Tells (Call (codes "abs") (Next (range (codes "0s") (span 4 9)) Nil) (span 0 3)) (fault BadDuration (span 6 8))
unfolding function_named functions
empty_range_is_told = tells_judged (Call (codes "abs") (Next (range (codes "0s") (span 4 9)) Nil) (span 0 3)) (fault BadDuration (span 6 8)) refl

-- `1 > 1` is refused at the operator
bare_comparison : Tells (Binary Greater plain (number (span 0 1)) (number (span 4 5)) (span 2 3)) (fault BadModifier (span 2 3))
bare_comparison = tells_judged (Binary Greater plain (number (span 0 1)) (number (span 4 5)) (span 2 3)) (fault BadModifier (span 2 3)) refl

-- `1 + "x"` is refused at the string
string_added : Tells (Binary Add plain (number (span 0 1)) (text (span 4 7)) (span 2 3)) (fault WrongType (span 4 7))
string_added = tells_judged (Binary Add plain (number (span 0 1)) (text (span 4 7)) (span 2 3)) (fault WrongType (span 4 7)) refl

-- `1 and nope(1)` is refused at the number, though the right side has no type
scalar_of_and : Tells (Binary And plain (number (span 0 1)) unknown (span 2 5)) (fault WrongType (span 0 1))
unfolding function_named functions told_order
scalar_of_and = tells_judged (Binary And plain (number (span 0 1)) unknown (span 2 5)) (fault WrongType (span 0 1)) refl

-- `1 > nope(1)` is refused at the name: whether scalars are compared isn't known
comparison_with_unknown : Tells (Binary Greater plain (number (span 0 1)) unknown (span 2 3)) (fault UnknownName (span 6 10))
unfolding function_named functions told_order
comparison_with_unknown = tells_judged (Binary Greater plain (number (span 0 1)) unknown (span 2 3)) (fault UnknownName (span 6 10)) refl
