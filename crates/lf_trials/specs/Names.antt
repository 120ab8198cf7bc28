-- The names that scraped series may have.
use Rattle.std.specs.Prelude.{Bool, not, ◌&&◌, ◌||◌, List, [], Option}
use Rattle.std.specs.List.{find, list_all}
use Rattle.std.specs.Str.{bytes_eq}
use Rattle.lf_ast.specs.Labels.{Bytes}
use Rattle.lf_ast.specs.Rules.{RuleTree}
use Rattle.lf_ast.specs.Selectors.{metric}
use Rattle.lf_ast.specs.declared.expr.Matcher.{Matcher}
use Rattle.lf_semantics.specs.Grouped.{is_metric}
use Rattle.lf_semantics.specs.Listing.{Listing}
use Rattle.lf_semantics.specs.Passing.{passes}
use Rattle.lf_trials.specs.Candidates.{candidates}
use Rattle.lf_trials.specs.Reached.{is_recorded}

-- a text that passes the matchers on the metric name
abbrev pub passes_as_name : List Matcher → Bytes → Bool
passes_as_name matchers name = list_all (λ m. not (is_metric m.label) || passes m.op m.value name) matchers

-- a name that scraped series may have
abbrev pub is_scraped_name : List RuleTree → Bytes → Bool
is_scraped_name rules name = not (bytes_eq name [] || is_recorded rules name)

-- the name of the series for a selector that says none: the first candidate that scraped series may have as a name and that passes the matchers on it
abbrev pub name_for : Listing → List RuleTree → List Matcher → Option Bytes
name_for u rules matchers = find (λ name. is_scraped_name rules name && passes_as_name matchers name) (candidates u metric)
