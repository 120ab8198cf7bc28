-- Lists of label sets in ascending order.
use Rattle.std.specs.Prelude.{List}
use Rattle.lf_laws.specs.Ascending as ascending
use Rattle.lf_ast.specs.Labels.{Labels}
pub use Rattle.lf_ast.specs.LabelOrder.{labels_cmp, pairs_of}

-- each label set is less than those behind it, so none stands twice
abbrev pub IsAscending : List Labels → Type 0
IsAscending = ascending.IsAscending labels_cmp
