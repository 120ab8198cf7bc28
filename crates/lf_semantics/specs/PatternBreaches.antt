-- What is wrong with the patterns and the selectors of an expression, and where: a pattern that can't be read, and a selector that names no metric, or names it twice.
use Rattle.std.specs.Prelude.{◌≡◌, ◌⊎◌, Bool, true, false, ◌&&◌, List, [], Option, Some, None, is_some, option_and_then}
use Rattle.std.specs.List.{AllByRecursion, Contains, list_any}
use Rattle.std.specs.Str.{bytes_eq}
use Rattle.lf_base.specs.declared.kind.Kind.TheVariants.{BadPattern, BadSelector}
use Rattle.lf_base.specs.declared.place.Span.{Span}
use Rattle.lf_base.specs.Faults.{IsTold, fault}
use Rattle.lf_ast.specs.Functions.{Signature, function_named}
use Rattle.lf_ast.specs.Labels.{Bytes}
use Rattle.lf_ast.specs.Tree.{Tree, Trees, Number, Str, Selector, Subquery, Paren, Unary, Binary, Call, Aggregate, Nil, Next}
use Rattle.lf_ast.specs.declared.expr.Matcher.{Matcher}
use Rattle.lf_ast.specs.declared.expr.MatchOp.{MatchOp}
use Rattle.lf_ast.specs.declared.expr.MatchOp.TheVariants.{Equal, NotEqual, Matches, NotMatches}
use Rattle.lf_base.specs.declared.fault.Fault.{Fault}
use Rattle.lf_ast.specs.declared.functions.LabelEffect.{LabelEffect}
use Rattle.lf_ast.specs.declared.functions.LabelEffect.TheVariants.{LabelReplace}
use Rattle.lf_ast.specs.Selectors.{metric}
use Rattle.lf_pattern.specs.Matching.{IsRead}
use Rattle.lf_semantics.specs.Parts.{argument_at}
use Rattle.lf_semantics.specs.Passing.{Passes}

-- patterns

-- a string where it stands
pub record Placed : Type 0 where
  pub text : Bytes
  pub span : Span

-- the string that an expression is, which may stand in parentheses; none of any other expression
abbrev pub placed_string : Tree → Option Placed
placed_string (Str text span) = Some (record { text = text; span = span })
placed_string (Paren of span) = placed_string of
placed_string _ = None

-- a pattern that can't be read
abbrev pub IsUnread : Bytes → Span → Fault → Type 0
IsUnread pattern span f = (IsRead pattern → ⊥) × (f ≡ fault BadPattern span)

-- the same of a string, if there is one
abbrev pub IsUnreadString : Option Placed → Fault → Type 0
IsUnreadString None f = ⊥
IsUnreadString (Some string) f = IsUnread string.text string.span f

-- `=~` and `!~` take a pattern
abbrev pub takes_pattern : MatchOp → Bool
takes_pattern Equal = false
takes_pattern NotEqual = false
takes_pattern Matches = true
takes_pattern NotMatches = true

abbrev pub HasUnread : List Matcher → Fault → Type 0
HasUnread matchers f = (m : Matcher) × Contains matchers m × (takes_pattern m.op ≡ true) × IsUnread m.value m.value_span f

-- the fifth argument of `label_replace` is a pattern, and no other function takes one
abbrev pub pattern_argument : LabelEffect → Trees → Option Placed
pattern_argument LabelReplace args = option_and_then placed_string (argument_at args 4)
pattern_argument _ args = None

abbrev pub called_with : Option Signature → Trees → Option Placed
called_with None args = None
called_with (Some s) args = pattern_argument s.labels args

-- selectors

-- a name before the braces is a matcher `=` on the metric name
abbrev pub is_empty_name : Option Bytes → Bool
is_empty_name None = true
is_empty_name (Some name) = bytes_eq name []

-- each matcher passes the empty text: the selector names no metric. A pattern that can't be read passes nothing
abbrev pub NamesNoMetric : Option Bytes → List Matcher → Type 0
NamesNoMetric name matchers = (is_empty_name name ≡ true) × AllByRecursion (λ m. Passes m.op m.value []) matchers

-- a name before the braces, and a matcher on the metric name
abbrev pub names_twice : Option Bytes → List Matcher → Bool
names_twice name matchers = is_some name && list_any (λ m. bytes_eq m.label metric) matchers

-- expressions

abbrev mutual
  -- the expression has this breach of patterns or selectors, in itself or in a part
  pub BreaksPatterns : Tree → Fault → Type 0
  BreaksPatterns (Number text span) f = ⊥
  BreaksPatterns (Str text span) f = ⊥
  BreaksPatterns (Selector name matchers sight span) f =
      HasUnread matchers f ⊎ ((NamesNoMetric name matchers ⊎ (names_twice name matchers ≡ true)) × (f ≡ fault BadSelector span))
  BreaksPatterns (Subquery of sight span) f = BreaksPatterns of f
  BreaksPatterns (Paren of span) f = BreaksPatterns of f
  BreaksPatterns (Unary minus of span) f = BreaksPatterns of f
  BreaksPatterns (Binary op m left right span) f = BreaksPatterns left f ⊎ BreaksPatterns right f
  BreaksPatterns (Call name args span) f = AnyBreaksPatterns args f ⊎ IsUnreadString (called_with (function_named name) args) f
  BreaksPatterns (Aggregate op grouping args span) f = AnyBreaksPatterns args f

  -- such a breach in one of the arguments
  pub AnyBreaksPatterns : Trees → Fault → Type 0
  AnyBreaksPatterns Nil f = ⊥
  AnyBreaksPatterns (Next x xs) f = BreaksPatterns x f ⊎ AnyBreaksPatterns xs f

-- the breach that is told: the expression has it, and none that comes before it
abbrev pub TellsPattern : Tree → Fault → Type 0
TellsPattern e = IsTold (BreaksPatterns e)
