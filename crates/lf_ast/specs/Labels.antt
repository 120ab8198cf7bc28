-- Label sets: finite maps from label names to texts.
use Rattle.std.specs.Prelude.{◌≢◌, List, []}
use Rattle.std.specs.Ordering.{nat_cmp}
use Rattle.std.specs.Cmp.Lexicographic.{slice_cmp}
use Rattle.std.specs.List.{AllByRecursion}
use Rattle.std.specs.FinMap.{FinMap}
pub use Rattle.lf_base.specs.Names.{Bytes}

-- a text for each of finitely many names
abbrev pub Labels : Type 0
Labels = FinMap (slice_cmp nat_cmp) Bytes

-- no text of a list of labels and texts is empty
abbrev pub HasNoEmptyText : List (Bytes × Bytes) → Type 0
HasNoEmptyText entries = AllByRecursion (λ entry. entry.1 ≢ []) entries
