-- Trees whose places lie in their file.
use Rattle.std.specs.Prelude.{ℕ, ◌<◌}
use Rattle.lf_base.specs.Faults.{LiesIn}
use Rattle.lf_scalar.specs.Cells.{Value}
use Rattle.lf_scalar.specs.Offsets.{AreOffsets}
use Rattle.lf_yaml.specs.Tree.{Tree, leaf, sequence, mapping, Items, no_items, item, Entries, no_entries, entry}

-- a scalar's span lies in a file of n bytes, and its offsets never fall and lie in its span
abbrev pub ScalarInside : ℕ → Value → Type 0
ScalarInside n v = LiesIn n v.span × AreOffsets v.text v.from v.span

abbrev mutual
  -- so it is with each scalar of a tree, a key too, and each collection's span lies in the file; so does the first character of a mapping
  pub Inside : ℕ → Tree → Type 0
  Inside n (leaf v) = ScalarInside n v
  Inside n (sequence is place) = LiesIn n place × ItemsInside n is
  Inside n (mapping es place) = LiesIn n place × (place.start < n) × EntriesInside n es

  pub ItemsInside : ℕ → Items → Type 0
  ItemsInside n no_items = Unit {0}
  ItemsInside n (item t is) = Inside n t × ItemsInside n is

  pub EntriesInside : ℕ → Entries → Type 0
  EntriesInside n no_entries = Unit {0}
  EntriesInside n (entry v t es) = ScalarInside n v × Inside n t × EntriesInside n es
