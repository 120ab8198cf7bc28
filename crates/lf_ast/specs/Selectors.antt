-- Which metric a selector names.
use Rattle.std.specs.Prelude.{Bool, true, false, ◌&&◌, cond, List, [], ◌∷◌, Option, Some, None}
use Rattle.std.specs.Str.{bytes_eq}
pub use Rattle.lf_base.specs.Names.{metric}
use Rattle.lf_ast.specs.Labels.{Bytes}
use Rattle.lf_ast.specs.declared.expr.Matcher.{Matcher}
use Rattle.lf_ast.specs.declared.expr.MatchOp.{MatchOp}
use Rattle.lf_ast.specs.declared.expr.MatchOp.TheVariants.{Equal, NotEqual, Matches, NotMatches}

abbrev pub is_equal : MatchOp → Bool
is_equal Equal = true
is_equal NotEqual = false
is_equal Matches = false
is_equal NotMatches = false

-- the text of the first `=` on the metric name
abbrev pub first_equal_name : List Matcher → Option Bytes
first_equal_name [] = None
first_equal_name (m ∷ matchers) = cond (is_equal m.op && bytes_eq m.label metric) (Some m.value) (first_equal_name matchers)

-- the name before the braces, or that of the first `=` on the metric name
abbrev pub selected_name : Option Bytes → List Matcher → Option Bytes
selected_name (Some name) matchers = Some name
selected_name None matchers = first_equal_name matchers
