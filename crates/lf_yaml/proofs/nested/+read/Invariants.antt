use Rattle.std.proofs.Common.{◌+◌, ◌*◌, ◌-◌, ◌≤◌, length, map}
use Rattle.std.specs.Str.{IsCharBoundary}
use Rattle.lf_yaml.specs.Rows.{indent}
use Rattle.lf_yaml.specs.Tree.{tree, pair}
use Rattle.lf_yaml.specs.views.Shown.{shown}
use Rattle.lf_yaml.specs.views.Cursor.{rows_after}
use Rattle.lf_yaml.specs.views.KeySets.{HasKeys}
use Rattle.lf_yaml.specs.reading.BlockTurns.{run_items, run_entries}
use Rattle.lf_yaml.proofs.ItemRuns.{ItemsLeft}
use Rattle.lf_yaml.proofs.EntryRuns.{EntriesLeft}
use Rattle.lf_yaml.specs.reading.FlowTurns.{texts_of}
use Rattle.lf_yaml.proofs.nested.+read.Given as goal

abbrev pub decreases-node : goal.decreases-node
decreases-node l = 4 * l.depth

abbrev pub decreases-item_value : goal.decreases-item_value
decreases-item_value l = 4 * l.depth + 1

abbrev pub decreases-items : goal.decreases-items
decreases-items l = 4 * l.depth + 2

abbrev pub invariant-items-rows : goal.invariant-items-rows
invariant-items-rows l = record {
  run : ItemsLeft l.source.bytes.now l.depth l.own l.column (map tree l.found) (rows_after l.source.bytes.now l.left) (run_items l.source.bytes.now l.depth l.own (indent (shown l.fn.row)) (shown l.fn.row) (rows_after l.source.bytes.now l.next));
  start : IsCharBoundary l.source.bytes.now l.left;
  further : l.next ≤ l.left;
}

abbrev pub decreases-items-rows : goal.decreases-items-rows
decreases-items-rows l = length l.source.bytes.now - l.left

abbrev pub decreases-entry_value : goal.decreases-entry_value
decreases-entry_value l = 4 * l.depth + 1

abbrev pub decreases-one_entry : goal.decreases-one_entry
decreases-one_entry l = 4 * l.depth + 2

abbrev pub decreases-entries : goal.decreases-entries
decreases-entries l = 4 * l.depth + 3

abbrev pub invariant-entries-rows : goal.invariant-entries-rows
invariant-entries-rows l = record {
  run : EntriesLeft l.source.bytes.now l.depth l.column (map pair l.found) (rows_after l.source.bytes.now l.left) (run_entries l.source.bytes.now l.depth (indent (shown l.fn.entry.row)) (shown l.fn.entry.row) (rows_after l.source.bytes.now l.fn.entry.behind));
  known : HasKeys l.keys (texts_of (map pair l.found));
  start : IsCharBoundary l.source.bytes.now l.left;
  further : l.fn.entry.behind ≤ l.left;
}

abbrev pub decreases-entries-rows : goal.decreases-entries-rows
decreases-entries-rows l = length l.source.bytes.now - l.left
