-- What `absent` looks for, as the code goes over the matchers. It defines nothing.
use Rattle.std.specs.Prelude.{Bool, not, ◌&&◌, ◌||◌, nat_lt, List, length, Option, option_map}
use Rattle.std.specs.List.{filter, list_any}
use Rattle.std.specs.Str.{bytes_eq}
use Rattle.lf_ast.specs.Labels.{Bytes}
use Rattle.lf_ast.specs.declared.expr.Matcher.{Matcher}
use Rattle.lf_semantics.specs.Grouped.{is_metric}
use Rattle.lf_semantics.specs.Parts.{Sought}

-- the sample may also have no label where it is said
abbrev pub also_bare : Bool → Option Sought → Option Sought
also_bare bare sought = option_map (λ s. record { matchers = s.matchers; may_be_bare = bare || s.may_be_bare }) sought

-- two matchers are on the label, which isn't the metric name
abbrev pub is_twice : List Matcher → Bytes → Bool
is_twice matchers label = not (is_metric label) && nat_lt 1 (length (filter (λ m. bytes_eq m.label label) matchers))

-- they are on the label of one of them
abbrev pub has_two : List Matcher → Bool
has_two matchers = list_any (λ m. is_twice matchers m.label) matchers
