-- Whether a selector names no metric, as the code computes it. It defines nothing: a law of proofs/PatternFaults (`passes_empty_is`) says that it agrees with `NamesNoMetric`.
use Rattle.std.specs.Prelude.{Bool, ◌&&◌, List, [], Option}
use Rattle.std.specs.List.{list_all}
use Rattle.lf_ast.specs.Labels.{Bytes}
use Rattle.lf_ast.specs.declared.expr.Matcher.{Matcher}
use Rattle.lf_semantics.specs.Passing.{passes}
use Rattle.lf_semantics.specs.PatternBreaches.{is_empty_name}

-- each matcher passes the empty text, and so does the name before the braces
abbrev pub passes_empty : Option Bytes → List Matcher → Bool
passes_empty name matchers = is_empty_name name && list_all (λ m. passes m.op m.value []) matchers
