use Rattle.std.proofs.Common.{◌-◌, [], sym, ap, ◌∙◌, subst, arith, map, rules, Ok}
use Rattle.std.proofs.lemmas.Result.{err_from_is_err_and}
use Rattle.std.proofs.lemmas.List.{map_push}
use Rattle.std.proofs.lemmas.Str.{IsUtf8-had}
use Rattle.lf_scalar.specs.Cells.{Fails}
use Rattle.lf_scalar.specs.Scalars.{value as scalar_value}
use Rattle.lf_yaml.specs.Rows.{indent}
use Rattle.lf_yaml.specs.Tree.{Tree, tree, pair}
use Rattle.lf_yaml.specs.reading.Trees.{as_sequence, as_mapping}
use Rattle.lf_yaml.specs.views.Shown.{shown}
use Rattle.lf_yaml.specs.views.Cursor.{rows_after}
use Rattle.lf_yaml.specs.views.Headed.{headed}
use Rattle.lf_yaml.specs.reading.BlockTurns.{values, run_items, run_entries}
use Rattle.lf_yaml.proofs.ItemRuns.{rows-placed, next-item, first-item-at, more-items, item-fails, items-done}
use Rattle.lf_yaml.proofs.ItemRuns as items
use Rattle.lf_yaml.proofs.EntryRuns.{next-entry, first-entry-at, first-fails-at, more-entries, entry-fails, entries-done}
use Rattle.lf_yaml.proofs.EntryRuns as entries
use Rattle.lf_yaml.specs.reading.FlowTurns.{texts_of}
use Rattle.lf_yaml.proofs.Collected.{Pair}
use Rattle.lf_yaml.proofs.BlockCode.{item-node, item-deep, entry-node, entry-deep, no-block, fails-sequence, fails-mapping, same-run, key-fails, value-fails, entry-read, known-first, known-more}
use Rattle.lf_yaml.proofs.nested.+read.Goals as goal

-- ---- nodes

pub node-returns-then-depth-eq0-clause-gives : goal.node-returns-then-depth-eq0-clause-gives
node-returns-then-depth-eq0-clause-gives t c =
    rw c.first_fault.ensures (item-deep c.args.source.bytes.now c.args.own c.args.above (shown c.args.row) (rows_after c.args.source.bytes.now c.args.next) c.args.depth (sym c.is_item.ensures ∙ c.if-is_item.true) c.if-depth-eq0.true)

pub node-returns-in_err-found-clause-gives : goal.node-returns-in_err-found-clause-gives
node-returns-in_err-found-clause-gives t c =
    let p = err_from_is_err_and c.from_residual.result c.from_residual.ensures.1 in
    let e = item-node c.args.source.bytes.now c.args.own c.args.above (shown c.args.row) (rows_after c.args.source.bytes.now c.args.next) c.args.depth (sym c.is_item.ensures ∙ c.if-is_item.true) (omega (arith, c.if-depth-eq0.false)) in
    rw (p.1, p.2) (subst (Fails c.in_err-found.field-0.0) (sym e) (fails-sequence (shown c.args.row) c.in_err-found.field-0.0 _ c.in_err-found.ensures.gives))

pub node-returns-then-is_item-clause-gives : goal.node-returns-then-is_item-clause-gives
node-returns-then-is_item-clause-gives t c =
    item-node c.args.source.bytes.now c.args.own c.args.above (shown c.args.row) (rows_after c.args.source.bytes.now c.args.next) c.args.depth (sym c.is_item.ensures ∙ c.if-is_item.true) (omega (arith, c.if-depth-eq0.false))
    ∙ ap (as_sequence (shown c.args.row)) c.in_ok-found.ensures.gives ∙ ap (λ (x : Tree). Ok (x, rows_after c.args.source.bytes.now c.in_ok-found.left)) (sym c.list_node.ensures)

pub node-returns-then-depth-eq0-2-clause-gives : goal.node-returns-then-depth-eq0-2-clause-gives
node-returns-then-depth-eq0-2-clause-gives t c =
    rw c.first_fault-then-depth-eq0-2.ensures
    (entry-deep c.args.source.bytes.now c.args.own c.args.above (shown c.args.row) (rows_after c.args.source.bytes.now c.args.next) c.args.depth _ (sym c.is_item.ensures ∙ c.if-is_item.false) c.in-Some.ensures.head c.if-depth-eq0-2.true)

pub node-entries-requires : goal.node-entries-requires
node-entries-requires t c = (search rules, c.in-Some.ensures.entry c.args.source.bytes.now c.requires.row c.requires.start)

pub node-returns-in_err-found-in-Some-clause-gives : goal.node-returns-in_err-found-in-Some-clause-gives
node-returns-in_err-found-in-Some-clause-gives t c =
    let p = err_from_is_err_and c.from_residual-in_err-found-in-Some.result c.from_residual-in_err-found-in-Some.ensures.1 in
    let s = same-run c.args.source.bytes.now (c.args.depth - 1) (shown c.in-Some.entry.row) (shown c.args.row) c.in-Some.entry.behind c.args.next c.in-Some.ensures.place.0 c.in-Some.ensures.place.1 in
    let e =
    entry-node c.args.source.bytes.now c.args.own c.args.above (shown c.args.row) (rows_after c.args.source.bytes.now c.args.next) c.args.depth _ (sym c.is_item.ensures ∙ c.if-is_item.false) c.in-Some.ensures.head (omega (arith, c.if-depth-eq0-2.false)) in
    rw (p.1, p.2)
    (subst (Fails c.in_err-found-in-Some.field-0.0) (sym e) (fails-mapping (shown c.args.row) c.in_err-found-in-Some.field-0.0 _ (subst (Fails c.in_err-found-in-Some.field-0.0) s c.in_err-found-in-Some.ensures.gives)))

pub node-returns-in_ok-found-in-Some-clause-gives : goal.node-returns-in_ok-found-in-Some-clause-gives
node-returns-in_ok-found-in-Some-clause-gives t c =
    let s = same-run c.args.source.bytes.now (c.args.depth - 1) (shown c.in-Some.entry.row) (shown c.args.row) c.in-Some.entry.behind c.args.next c.in-Some.ensures.place.0 c.in-Some.ensures.place.1 in
    entry-node c.args.source.bytes.now c.args.own c.args.above (shown c.args.row) (rows_after c.args.source.bytes.now c.args.next) c.args.depth _ (sym c.is_item.ensures ∙ c.if-is_item.false) c.in-Some.ensures.head (omega (arith, c.if-depth-eq0-2.false))
    ∙ ap (as_mapping (shown c.args.row)) (sym s ∙ c.in_ok-found-in-Some.ensures.gives) ∙ ap (λ (x : Tree). Ok (x, rows_after c.args.source.bytes.now c.in_ok-found-in-Some.left)) (sym c.map_node.ensures)

pub node-returns-in-None-clause-gives : goal.node-returns-in-None-clause-gives
node-returns-in-None-clause-gives t c =
    rw (no-block c.args.source.bytes.now c.args.own c.args.above (shown c.args.row) (rows_after c.args.source.bytes.now c.args.next) c.args.depth (sym c.is_item.ensures ∙ c.if-is_item.false) c.in-None.ensures.head) c.value.ensures.gives

-- ---- the value of an item

pub item_value-node-requires : goal.item_value-node-requires
item_value-node-requires t c = let utf8 = IsUtf8-had c.args.source.bytes.now c.args.source.utf8 in search (rules, utf8)

-- ---- items

pub items-returns-in_err-first-clause-gives : goal.items-returns-in_err-first-clause-gives
items-returns-in_err-first-clause-gives t c =
    let p = err_from_is_err_and c.from_residual.result c.from_residual.ensures.1 in
    rw (p.1, p.2) (items.first-fails c.args.source.bytes.now c.args.depth c.args.own (shown c.args.row) (rows_after c.args.source.bytes.now c.args.next) c.in_err-first.field-0.0 c.requires.item c.in_err-first.ensures.gives)

pub items-rows-init : goal.items-rows-init
items-rows-init t c = record {
  run = rw (c.in_ok-push.ensures.ok, c.new-found.ensures)
      (first-item-at c.args.source.bytes.now c.args.depth c.indent-column.result c.args.own (shown c.args.row) (rows_after c.args.source.bytes.now c.args.next) (tree c.in_ok-first.first) (rows_after c.args.source.bytes.now c.in_ok-first.left) c.indent-column.ensures
      c.requires.row.placed (rows-placed c.args.source.bytes.now c.args.next) c.requires.item c.in_ok-first.ensures.gives);
  start = c.in_ok-first.ensures.start;
  further = c.in_ok-first.ensures.further;
}

pub items-returns-in_err-row-clause-gives : goal.items-returns-in_err-row-clause-gives
items-returns-in_err-row-clause-gives t c =
    let p = err_from_is_err_and c.from_residual-in_err-row.result c.from_residual-in_err-row.ensures.1 in
    rw (p.1, p.2) (items.turn-fails c.args.source.bytes.now c.args.depth c.args.own c.indent-column.result (map tree c.rows.found) (rows_after c.args.source.bytes.now c.rows.left) (run_items c.args.source.bytes.now c.args.depth c.args.own (indent (shown c.args.row)) (shown c.args.row) (rows_after c.args.source.bytes.now c.args.next)) c.in_err-row.field-0.0 c.in_err-row.ensures.turn c.rows.invariant.run)

pub items-item_value-requires-in-Some : goal.items-item_value-requires-in-Some
items-item_value-requires-in-Some t c =
    let turn = rw c.in-Some.is at c.in_ok-row.ensures.turn in
    let next = next-item c.args.own c.indent-column.result (rows_after c.args.source.bytes.now c.rows.left) (shown c.in-Some.row) (rows_after c.args.source.bytes.now c.in-Some.behind) turn in
    (search rules, (rw c.in-Some.is at c.in_ok-row.ensures.row, (rw c.in-Some.is at c.in_ok-row.ensures.start, next.is)))

pub items-returns-in_err-item-clause-gives : goal.items-returns-in_err-item-clause-gives
items-returns-in_err-item-clause-gives t c =
    let p = err_from_is_err_and c.from_residual-in_err-item.result c.from_residual-in_err-item.ensures.1 in
    let turn = rw c.in-Some.is at c.in_ok-row.ensures.turn in
    let next = next-item c.args.own c.indent-column.result (rows_after c.args.source.bytes.now c.rows.left) (shown c.in-Some.row) (rows_after c.args.source.bytes.now c.in-Some.behind) turn in
    rw (p.1, p.2) (item-fails c.args.source.bytes.now c.args.depth c.args.own c.indent-column.result (map tree c.rows.found) (rows_after c.args.source.bytes.now c.rows.left) (shown c.in-Some.row) (rows_after c.args.source.bytes.now c.in-Some.behind) (run_items c.args.source.bytes.now c.args.depth c.args.own (indent (shown c.args.row)) (shown c.args.row) (rows_after c.args.source.bytes.now c.args.next)) c.in_err-item.field-0.0 next
    c.in_err-item.ensures.gives c.rows.invariant.run)

pub items-rows-preserved : goal.items-rows-preserved
items-rows-preserved t c =
    let turn = rw c.in-Some.is at c.in_ok-row.ensures.turn in
    let row = rw c.in-Some.is at c.in_ok-row.ensures.row in
    let behind = rw c.in-Some.is at c.in_ok-row.ensures.further in
    let next = next-item c.args.own c.indent-column.result (rows_after c.args.source.bytes.now c.rows.left) (shown c.in-Some.row) (rows_after c.args.source.bytes.now c.in-Some.behind) turn in
    record {
      run = rw (c.in_ok-push-2.ensures.ok, map_push tree c.rows.found c.in_ok-item.item)
          (more-items c.args.source.bytes.now c.args.depth c.args.own c.indent-column.result (map tree c.rows.found) (rows_after c.args.source.bytes.now c.rows.left) (shown c.in-Some.row) (rows_after c.args.source.bytes.now c.in-Some.behind) (tree c.in_ok-item.item)
          (rows_after c.args.source.bytes.now c.in_ok-item.rest) (run_items c.args.source.bytes.now c.args.depth c.args.own (indent (shown c.args.row)) (shown c.args.row) (rows_after c.args.source.bytes.now c.args.next)) row.placed (rows-placed c.args.source.bytes.now c.in-Some.behind) next c.in_ok-item.ensures.gives c.rows.invariant.run);
      start = c.in_ok-item.ensures.start;
      further = omega (arith, c.in_ok-item.ensures.further, behind, c.rows.invariant.further);
    }

pub items-returns-clause-gives : goal.items-returns-clause-gives
items-returns-clause-gives t c =
    items-done c.args.source.bytes.now c.args.depth c.args.own c.indent-column.result (map tree c.rows.found) (rows_after c.args.source.bytes.now c.rows.left) (run_items c.args.source.bytes.now c.args.depth c.args.own (indent (shown c.args.row)) (shown c.args.row) (rows_after c.args.source.bytes.now c.args.next)) (rw c.in_default.is at c.in_ok-row.ensures.turn) c.rows.invariant.run

-- ---- the value of an entry

pub entry_value-value_here-requires-clause-row : goal.entry_value-value_here-requires-clause-row
entry_value-value_here-requires-clause-row t c = c.in-Some.ensures.row c.args.source.bytes.now (IsUtf8-had c.args.source.bytes.now c.args.source.utf8) c.requires.entry.row

-- ---- one entry

pub one_entry-returns-in_err-key-clause-gives : goal.one_entry-returns-in_err-key-clause-gives
one_entry-returns-in_err-key-clause-gives t c = λ texts known.
    let p = err_from_is_err_and c.from_residual.result c.from_residual.ensures.1 in
    let e = c.args.entry in
    rw (p.1, p.2) (key-fails (values c.args.source.bytes.now c.args.depth c.args.column) texts (shown e.row) (headed e.row.at e.row.text.now e.head) (rows_after c.args.source.bytes.now e.behind) c.in_err-key.field-0.0 (c.in_err-key.ensures texts known))

pub one_entry-returns-in_err-value-clause-gives : goal.one_entry-returns-in_err-value-clause-gives
one_entry-returns-in_err-value-clause-gives t c = λ texts known.
    let p = err_from_is_err_and c.from_residual-in_err-value.result c.from_residual-in_err-value.ensures.1 in
    let e = c.args.entry in
    rw (p.1, p.2) (value-fails (values c.args.source.bytes.now c.args.depth c.args.column) texts (shown e.row) (headed e.row.at e.row.text.now e.head) (rows_after c.args.source.bytes.now e.behind) c.in_err-value.field-0.0 (scalar_value c.in_ok-key.key)
    (c.in_ok-key.ensures texts known) c.in_err-value.ensures.gives)

pub one_entry-returns-clause-gives : goal.one_entry-returns-clause-gives
one_entry-returns-clause-gives t c = λ texts known.
    let e = c.args.entry in
    entry-read (values c.args.source.bytes.now c.args.depth c.args.column) texts (shown e.row) (headed e.row.at e.row.text.now e.head) (rows_after c.args.source.bytes.now e.behind) (scalar_value c.in_ok-key.key) (tree c.in_ok-value.value) (rows_after c.args.source.bytes.now c.in_ok-value.left)
    (c.in_ok-key.ensures texts known) c.in_ok-value.ensures.gives
    ∙ ap (λ (x : Pair). Ok (x, rows_after c.args.source.bytes.now c.in_ok-value.left)) (sym c.entry_node.ensures)

-- ---- entries

pub entries-returns-in_err-first-clause-gives : goal.entries-returns-in_err-first-clause-gives
entries-returns-in_err-first-clause-gives t c =
    let p = err_from_is_err_and c.from_residual-in_err-first.result c.from_residual-in_err-first.ensures.1 in
    let e = c.args.entry in
    rw (p.1, p.2) (first-fails-at c.args.source.bytes.now c.args.depth c.indent-column.result (shown e.row) (headed e.row.at e.row.text.now e.head) (rows_after c.args.source.bytes.now e.behind) c.in_err-first.field-0.0 c.indent-column.ensures c.requires.entry.entry
    (c.in_err-first.ensures.gives [] c.new-keys.ensures))

pub entries-rows-init : goal.entries-rows-init
entries-rows-init t c =
    let e = c.args.entry in
    record {
      run = rw (c.in_ok-push.ensures.ok, c.in_ok-found.ensures)
          (first-entry-at c.args.source.bytes.now c.args.depth c.indent-column.result (shown e.row) (headed e.row.at e.row.text.now e.head) (rows_after c.args.source.bytes.now e.behind) (pair c.in_ok-first.first) (rows_after c.args.source.bytes.now c.in_ok-first.left) c.indent-column.ensures
          c.requires.entry.row.placed (rows-placed c.args.source.bytes.now e.behind) c.requires.entry.entry (c.in_ok-first.ensures.gives [] c.new-keys.ensures));
      known = rw (c.in_ok-push.ensures.ok, c.in_ok-found.ensures) (known-first c.add.new.self c.in_ok-first.first c.as_str.result.now c.as_str.ensures (c.in_ok-add.ensures [] c.new-keys.ensures));
      start = c.in_ok-first.ensures.start;
      further = c.in_ok-first.ensures.further;
    }

pub entries-returns-in_err-row-clause-gives : goal.entries-returns-in_err-row-clause-gives
entries-returns-in_err-row-clause-gives t c =
    let p = err_from_is_err_and c.from_residual-in_err-row.result c.from_residual-in_err-row.ensures.1 in
    rw (p.1, p.2) (entries.turn-fails c.args.source.bytes.now c.args.depth c.indent-column.result (map pair c.rows.found) (rows_after c.args.source.bytes.now c.rows.left) (run_entries c.args.source.bytes.now c.args.depth (indent (shown c.args.entry.row)) (shown c.args.entry.row) (rows_after c.args.source.bytes.now c.args.entry.behind)) c.in_err-row.field-0.0 c.in_err-row.ensures.turn c.rows.invariant.run)

pub entries-returns-in_err-entry-clause-gives : goal.entries-returns-in_err-entry-clause-gives
entries-returns-in_err-entry-clause-gives t c =
    let p = err_from_is_err_and c.from_residual-in_err-entry.result c.from_residual-in_err-entry.ensures.1 in
    let e = c.in-Some.row in
    let turn = rw c.in-Some.is at c.in_ok-row.ensures.turn in
    let next = next-entry c.indent-column.result (rows_after c.args.source.bytes.now c.rows.left) (shown e.row) (headed e.row.at e.row.text.now e.head) (rows_after c.args.source.bytes.now e.behind) turn in
    rw (p.1, p.2) (entry-fails c.args.source.bytes.now c.args.depth c.indent-column.result (map pair c.rows.found) (rows_after c.args.source.bytes.now c.rows.left) (shown e.row) (headed e.row.at e.row.text.now e.head) (rows_after c.args.source.bytes.now e.behind) (run_entries c.args.source.bytes.now c.args.depth (indent (shown c.args.entry.row)) (shown c.args.entry.row) (rows_after c.args.source.bytes.now c.args.entry.behind)) c.in_err-entry.field-0.0 next
    (c.in_err-entry.ensures.gives (texts_of (map pair c.rows.found)) c.rows.invariant.known) c.rows.invariant.run)

pub entries-rows-preserved : goal.entries-rows-preserved
entries-rows-preserved t c =
    let e = c.in-Some.row in
    let turn = rw c.in-Some.is at c.in_ok-row.ensures.turn in
    let known = rw c.in-Some.is at c.in_ok-row.ensures.entry in
    let behind = rw c.in-Some.is at c.in_ok-row.ensures.further in
    let next = next-entry c.indent-column.result (rows_after c.args.source.bytes.now c.rows.left) (shown e.row) (headed e.row.at e.row.text.now e.head) (rows_after c.args.source.bytes.now e.behind) turn in
    record {
      run = rw (c.in_ok-push-2.ensures.ok, map_push pair c.rows.found c.in_ok-entry.entry)
          (more-entries c.args.source.bytes.now c.args.depth c.indent-column.result (map pair c.rows.found) (rows_after c.args.source.bytes.now c.rows.left) (shown e.row) (headed e.row.at e.row.text.now e.head) (rows_after c.args.source.bytes.now e.behind) (pair c.in_ok-entry.entry)
          (rows_after c.args.source.bytes.now c.in_ok-entry.rest) (run_entries c.args.source.bytes.now c.args.depth (indent (shown c.args.entry.row)) (shown c.args.entry.row) (rows_after c.args.source.bytes.now c.args.entry.behind)) known.row.placed (rows-placed c.args.source.bytes.now e.behind) next (c.in_ok-entry.ensures.gives (texts_of (map pair c.rows.found)) c.rows.invariant.known) c.rows.invariant.run);
      known = rw c.in_ok-push-2.ensures.ok (known-more c.add-in-Some.new.self c.rows.found c.in_ok-entry.entry c.as_str-in-Some.result.now c.as_str-in-Some.ensures (c.in_ok-add-2.ensures (texts_of (map pair c.rows.found)) c.rows.invariant.known));
      start = c.in_ok-entry.ensures.start;
      further = omega (arith, c.in_ok-entry.ensures.further, behind, c.rows.invariant.further);
    }

pub entries-returns-clause-gives : goal.entries-returns-clause-gives
entries-returns-clause-gives t c =
    entries-done c.args.source.bytes.now c.args.depth c.indent-column.result (map pair c.rows.found) (rows_after c.args.source.bytes.now c.rows.left) (run_entries c.args.source.bytes.now c.args.depth (indent (shown c.args.entry.row)) (shown c.args.entry.row) (rows_after c.args.source.bytes.now c.args.entry.behind)) (rw c.in_default.is at c.in_ok-row.ensures.turn) c.rows.invariant.run
