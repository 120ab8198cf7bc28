-- The samples of a selector, matcher by matcher.
use Rattle.std.specs.Prelude.{Bool, true, cond, not, List, [], ◌∷◌, Option, Some, None}
use Rattle.std.specs.List.{filter}
use Rattle.std.specs.Str.{bytes_eq}
use Rattle.lf_ast.specs.Labels.{Bytes, Labels}
use Rattle.lf_ast.specs.Selectors.{metric}
use Rattle.lf_ast.specs.declared.expr.Matcher.{Matcher}
use Rattle.lf_semantics.specs.Passing.{passes}
use Rattle.lf_semantics.specs.Texts.{value_of}

-- the sample has the name before the braces, if there is one
abbrev pub has_name : Option Bytes → Labels → Bool
has_name None s = true
has_name (Some name) s = bytes_eq (value_of s metric) name

-- the sample passes a matcher
abbrev pub passes_by : Matcher → Labels → Bool
passes_by m s = passes m.op m.value (value_of s m.label)

-- an answer as it is, or turned round where the other is wanted
abbrev pub as_wanted : Bool → Bool → Bool
as_wanted wanted found = cond wanted found (not found)

-- the samples that pass some matchers, one after the other
abbrev pub passing : List Matcher → List Labels → List Labels
passing [] W = W
passing (m ∷ matchers) W = passing matchers (filter (passes_by m) W)
