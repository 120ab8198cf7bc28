-- A way of finding the breach of patterns and selectors that is told, in one pass over an expression. It defines nothing: what it finds is proved to be the breach that
-- is told.
use Rattle.std.specs.Prelude.{◌||◌, not, cond, List, [], ◌∷◌, Option, Some, None, Result, Ok, Err}
use Rattle.lf_base.specs.Faults.{fault, first, when}
use Rattle.lf_base.specs.declared.fault.Fault.{Fault}
use Rattle.lf_base.specs.declared.kind.Kind.TheVariants.{BadPattern, BadSelector}
use Rattle.lf_base.specs.declared.place.Span.{Span}
use Rattle.lf_ast.specs.Functions.{function_named}
use Rattle.lf_ast.specs.Labels.{Bytes}
use Rattle.lf_ast.specs.Tree.{Tree, Trees, Number, Str, Selector, Subquery, Paren, Unary, Binary, Call, Aggregate, Nil, Next}
use Rattle.lf_ast.specs.declared.expr.Matcher.{Matcher}
use Rattle.lf_pattern.specs.Matching.{is_read}
use Rattle.lf_semantics.specs.PatternBreaches.{Placed, called_with, names_twice, takes_pattern}
use Rattle.lf_semantics.specs.reading.Selectors.{passes_empty}

-- the breach of a pattern
abbrev pub unread_fault : Bytes → Span → Option Fault
unread_fault pattern span = when (not (is_read pattern)) (fault BadPattern span)

abbrev pub string_fault : Option Placed → Option Fault
string_fault None = None
string_fault (Some string) = unread_fault string.text string.span

abbrev pub matcher_fault : Matcher → Option Fault
matcher_fault m = cond (takes_pattern m.op) (unread_fault m.value m.value_span) None

-- of the breach so far and those of the matchers the one that is told
abbrev pub matchers_fault : Option Fault → List Matcher → Option Fault
matchers_fault so_far [] = so_far
matchers_fault so_far (m ∷ matchers) = matchers_fault (first so_far (matcher_fault m)) matchers

abbrev pub selector_fault : Option Bytes → List Matcher → Span → Option Fault
selector_fault name matchers span = first (matchers_fault None matchers) (when (names_twice name matchers || passes_empty name matchers) (fault BadSelector span))

abbrev mutual
  -- the breach that is told of an expression, if it has one
  pub pattern_fault : Tree → Option Fault
  pattern_fault (Number text span) = None
  pattern_fault (Str text span) = None
  pattern_fault (Selector name matchers sight span) = selector_fault name matchers span
  pattern_fault (Subquery of sight span) = pattern_fault of
  pattern_fault (Paren of span) = pattern_fault of
  pattern_fault (Unary minus of span) = pattern_fault of
  pattern_fault (Binary op m left right span) = first (pattern_fault left) (pattern_fault right)
  pattern_fault (Call name args span) = arguments_fault args (string_fault (called_with (function_named name) args))
  pattern_fault (Aggregate op grouping args span) = arguments_fault args None

  -- of the breach so far and those of arguments the one that is told
  pub arguments_fault : Trees → Option Fault → Option Fault
  arguments_fault Nil so_far = so_far
  arguments_fault (Next x xs) so_far = arguments_fault xs (first so_far (pattern_fault x))

abbrev pub unless_found : Option Fault → Result (Unit {0}) Fault
unless_found None = Ok tt
unless_found (Some f) = Err f

-- what is answered of an expression
abbrev pub patterns_checked : Tree → Result (Unit {0}) Fault
patterns_checked e = unless_found (pattern_fault e)
