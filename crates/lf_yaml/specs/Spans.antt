-- The spans of trees.
use Rattle.std.specs.Prelude.{ℕ, []}
use Rattle.lf_base.specs.declared.place.Span.{Span}
use Rattle.lf_base.specs.Faults.{span}
use Rattle.lf_scalar.specs.Cells.{made}
use Rattle.lf_yaml.specs.Tree.{Tree, leaf, sequence, mapping, Items, no_items, item, Entries, no_entries, entry}

abbrev pub span_of : Tree → Span
span_of (leaf v) = v.span
span_of (sequence is place) = place
span_of (mapping es place) = place

-- where the last of some items or entries ends, or an offset where there is none
abbrev pub items_end : ℕ → Items → ℕ
items_end none no_items = none
items_end none (item t is) = items_end (span_of t).end is

abbrev pub entries_end : ℕ → Entries → ℕ
entries_end none no_entries = none
entries_end none (entry k t es) = entries_end (span_of t).end es

-- the empty text at an offset, which no character gives
abbrev pub empty_at : ℕ → Tree
empty_at at = leaf (made [] at (span at at))
