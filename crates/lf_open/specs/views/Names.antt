-- Which selectors narrow the samples of a name: how contracts see the code. It defines nothing.
use Rattle.std.specs.Prelude.{Bool, false, not, ◌&&◌, is_some}
use Rattle.std.specs.List.{list_any}
use Rattle.lf_ast.specs.Selectors.{selected_name}
use Rattle.lf_ast.specs.Tree.{Tree, Selector}
use Rattle.lf_semantics.specs.Grouped.{is_metric}

-- a selector that says a name and has a matcher on another label than the metric name
abbrev pub narrows : Tree → Bool
narrows (Selector name matchers sight span) = is_some (selected_name name matchers) && list_any (λ m. not (is_metric m.label)) matchers
narrows _ = false
