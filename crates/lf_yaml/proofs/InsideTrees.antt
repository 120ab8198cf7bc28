-- The tree of a file lies in it.
use Rattle.std.proofs.Common.{◌≡◌, ℕ, suc, ◌<◌, ◌≤◌, Bool, true, false, eqb, List, [], ◌∷◌, ◌++◌, length, drop, Some, Result, Ok, Err, arith, eqb-true}
use Rattle.std.specs.Str.{IsUtf8}
use Rattle.std.proofs.lemmas.Bool.{and_parts}
use Rattle.std.specs.Prelude.{IfOk}
use Rattle.lf_base.specs.declared.refusal.Refusal.{Refusal}
use Rattle.lf_base.specs.Answers.{Found}
use Rattle.lf_base.specs.Faults.{LiesIn}
use Rattle.lf_scalar.specs.Cells.{Cell, Value}
use Rattle.lf_scalar.specs.Plain.{before_blank}
use Rattle.lf_scalar.proofs.Parts.{utf8-behind}
use Rattle.lf_scalar.proofs.TextLaws.{style-placed}
use Rattle.lf_yaml.specs.Rows.{ContentRow, indent, left_of}
use Rattle.lf_yaml.specs.Heads.{is_item, style_of}
use Rattle.lf_yaml.specs.Tree.{Tree, tree, leaf, sequence, mapping, Items, Entries}
use Rattle.lf_yaml.specs.Spans.{span_of, items_end, entries_end}
use Rattle.lf_yaml.specs.Nodes.{IsScalarOn, ValueAt, NodeAt, BlockAt, ItemsAt, ItemValue, EntriesAt, EntryAt, EntryValue}
use Rattle.lf_yaml.specs.Nodes as nodes
use Rattle.lf_yaml.specs.Document.{document_rows, DocumentAt, nothing, a_node, IsTree}
use Rattle.lf_yaml.specs.Insides.{ScalarInside, Inside, ItemsInside, EntriesInside}
use Rattle.lf_yaml.specs.declared.node.Node.{Node}
use Rattle.lf_yaml.proofs.BlockRows.{item-rows, entry-rows}
use Rattle.lf_yaml.proofs.InsideRows.{IsRowIn, row_low, row_behind, left_in, AreRowsIn, rows_end, source_rises, document_in}
use Rattle.lf_yaml.proofs.InsideScalars.{ScalarFrom, LeftIn, placed_from, empty_inside, entry_key_in, key_from}
use Rattle.lf_yaml.proofs.InsideFlow.{sequence_in, mapping_in}

pub inside_span : (n : ℕ) (t : Tree) → Inside n t → LiesIn n (span_of t)
inside_span n (leaf v) h = h.0
inside_span n (sequence is place) h = h.0
inside_span n (mapping es place) h = h.0

scalar_wide : (stop n : ℕ) (v : Value) → stop ≤ n → ScalarInside stop v → ScalarInside n v
scalar_wide stop n v le h = ((h.0.0, omega (arith, h.0.1, le)), h.1)

-- the row at its own offset or later
pub row_here : (lo stop : ℕ) (r : ContentRow) → IsRowIn lo stop r → IsRowIn r.first.at stop r
row_here lo stop r h = record { low = omega arith; begin = h.begin; rises = h.rises; utf8 = h.utf8 }

pub item_byte : (r : ContentRow) → is_item r ≡ true → r.first.byte < 128
item_byte r i = omega (arith, eqb-true r.first.byte 45 (and_parts (eqb r.first.byte 45) (before_blank r.rest) i).0)

-- what is left of a row behind the sign of an item
pub left_item : (lo stop : ℕ) (r left : ContentRow) → is_item r ≡ true → left_of r.begin r.rest ≡ Some left → IsRowIn lo stop r → IsRowIn (suc r.first.at) stop left
left_item lo stop r left i e h = left_in r.begin r.rest left (suc r.first.at) stop e (let b = h.begin in omega (arith, b)) (utf8-behind [] r.first r.rest h.utf8 (item_byte r i)) h.rises.1

abbrev pub TreeFrom : ℕ → ℕ → Tree → Type 0
TreeFrom n lo t = Inside n t × (lo ≤ (span_of t).start)

-- from an earlier offset on
tree_low : (n lo low : ℕ) (t : Tree) → low ≤ lo → TreeFrom n lo t → TreeFrom n low t
tree_low n lo low t le h = (h.0, omega (arith, le, h.1))

module _ (bytes : List ℕ) (utf8 : IsUtf8 bytes) where
  scalar_on : (above lo stop : ℕ) (r : ContentRow) (v : Value) → IsScalarOn bytes above r v → IsRowIn lo stop r → stop ≤ length bytes → ScalarFrom (length bytes) r.first.at v
  scalar_on above lo stop r v s h le =
      let k = row_behind lo stop r h in
      placed_from (length bytes) r.first.at (length bytes) v
      (style-placed (style_of r.first) above r.first.at (length bytes) (drop r.first.at bytes) v (source_rises bytes utf8 r.first.at (omega (arith, k, le))) s) (omega arith)

  pub value_tree : (above d lo stop : ℕ) (r : ContentRow) (rs : List ContentRow) (t : Tree) (rest : List ContentRow) → ValueAt bytes above d r rs t rest → IsRowIn lo stop r → stop ≤ length bytes → AreRowsIn (length bytes) stop rs → TreeFrom (length bytes) r.first.at t
  value_tree above d lo stop r _ _ _ (nodes.ValueAt.scalar {v = v} rs b s) h le rows = let x = scalar_on above lo stop r v s h le in (x.0, omega (arith, x.1))
  value_tree above _ lo stop r _ _ _ (nodes.ValueAt.flow_sequence {is = is} {closing = closing} rs q s tail) h le rows =
      let x = sequence_in bytes (suc r.first.at) is closing s in
      let low = x.1.0 in
      let within = x.1.1 in
      (((omega (arith, low), within), x.0), omega arith)
  value_tree above _ lo stop r _ _ _ (nodes.ValueAt.flow_mapping {es = es} {closing = closing} rs q s tail) h le rows =
      let x = mapping_in bytes [] (suc r.first.at) es closing s in
      let low = x.1.0 in
      let within = x.1.1 in
      (((omega (arith, low), within), omega (arith, low, within), x.0), omega arith)

mutual
  pub node_tree : (bytes : List ℕ) (utf8 : IsUtf8 bytes) (above d lo stop : ℕ) (r : ContentRow) (rs : List ContentRow) (t : Tree) (rest : List ContentRow) → NodeAt bytes above d r rs t rest → IsRowIn lo stop r → stop ≤ length bytes → AreRowsIn (length bytes) stop rs
      → TreeFrom (length bytes) lo t
  node_tree bytes utf8 above d lo stop r rs t rest (nodes.NodeAt.value without h) row le rows = tree_low (length bytes) r.first.at lo t row.low (value_tree bytes utf8 above d lo stop r rs t rest h row le rows)
  node_tree bytes utf8 above d lo stop r rs t rest (nodes.NodeAt.block a h) row le rows = block_tree bytes utf8 d false lo stop r rs t rest h row le rows

  pub block_tree : (bytes : List ℕ) (utf8 : IsUtf8 bytes) (d : ℕ) (own : Bool) (lo stop : ℕ) (r : ContentRow) (rs : List ContentRow) (t : Tree) (rest : List ContentRow) → BlockAt bytes d own r rs t rest → IsRowIn lo stop r → stop ≤ length bytes
      → AreRowsIn (length bytes) stop rs → TreeFrom (length bytes) lo t
  block_tree bytes utf8 _ own lo stop r rs _ rest (nodes.BlockAt.block_sequence {d = d} {is = is} h) row le rows =
      let x = items_tree bytes utf8 d own (indent r) r.first.at stop r.first.at r rs is rest h (row_here lo stop r row) le rows in
      (((x.1, x.2), x.0), row.low)
  block_tree bytes utf8 _ own lo stop r rs _ rest (nodes.BlockAt.block_mapping {d = d} {es = es} h) row le rows =
      let x = entries_tree bytes utf8 d (indent r) [] r.first.at stop r.first.at r rs es rest h (row_here lo stop r row) le rows in
      let k = row_behind lo stop r row in
      (((x.1, x.2), omega (arith, k, le), x.0), row.low)

  pub items_tree : (bytes : List ℕ) (utf8 : IsUtf8 bytes) (d : ℕ) (own : Bool) (m lo stop none : ℕ) (r : ContentRow) (rs : List ContentRow) (is : Items) (rest : List ContentRow) → ItemsAt bytes d own m r rs is rest → IsRowIn lo stop r → stop ≤ length bytes
      → AreRowsIn (length bytes) stop rs → ItemsInside (length bytes) is × (lo ≤ items_end none is) × (items_end none is ≤ length bytes)
  items_tree bytes utf8 d own m lo stop none r rs _ rest (nodes.ItemsAt.last_item {t = t} e i h ends) row le rows =
      let x = item_tree bytes utf8 d m lo stop r rs t rest i h row le rows in
      let s = inside_span (length bytes) t x.0 in
      ((x.0, tt), omega (arith, x.1, s.0), s.1)
  items_tree bytes utf8 d own m lo stop none r rs _ rest (nodes.ItemsAt.more_items {next = next} {later = later} {t = t} {is = is} e i h more) row le rows =
      let x = item_tree bytes utf8 d m lo stop r rs t (next ∷ later) i h row le rows in
      let k : AreRowsIn (length bytes) stop (next ∷ later) = rows_end (length bytes) stop rs (next ∷ later) (item-rows bytes d m r rs t (next ∷ later) h) rows in
      let behind = row_behind lo stop r row in
      let low = row.low in
      let y = items_tree bytes utf8 d own m lo k.0 (span_of t).end next later is rest more (row_low stop lo k.0 next (omega (arith, behind, low)) k.1) k.2 k.3 in
      ((x.0, y.0), y.1, y.2)

  pub item_tree : (bytes : List ℕ) (utf8 : IsUtf8 bytes) (d m lo stop : ℕ) (r : ContentRow) (rs : List ContentRow) (t : Tree) (rest : List ContentRow) → is_item r ≡ true → ItemValue bytes d m r rs t rest → IsRowIn lo stop r → stop ≤ length bytes
      → AreRowsIn (length bytes) stop rs → TreeFrom (length bytes) lo t
  item_tree bytes utf8 d m lo stop r rs t rest i (nodes.ItemValue.item_here {left = left} tab e h) row le rows =
      let low = row.low in
      tree_low (length bytes) (suc r.first.at) lo t (omega (arith, low)) (node_tree bytes utf8 (suc m) d (suc r.first.at) stop left rs t rest h (left_item lo stop r left i e row) le rows)
  item_tree bytes utf8 d m lo stop r _ t rest i (nodes.ItemValue.item_below {next = next} {rs = rs} tab e lt h) row le rows =
      let low = row.low in
      let behind = row_behind lo stop r row in
      tree_low (length bytes) stop lo t (omega (arith, low, behind)) (node_tree bytes utf8 (suc m) d stop rows.0 next rs t rest h rows.1 rows.2 rows.3)
  item_tree bytes utf8 d m lo stop r rs _ _ i (nodes.ItemValue.item_empty d2 tab e none) row le rows =
      let low = row.low in
      let behind = row_behind lo stop r row in
      (empty_inside (length bytes) (suc r.first.at) (omega (arith, behind, le)), omega (arith, low))

  pub entries_tree : (bytes : List ℕ) (utf8 : IsUtf8 bytes) (d m : ℕ) (keys : List (List ℕ)) (lo stop none : ℕ) (r : ContentRow) (rs : List ContentRow) (es : Entries) (rest : List ContentRow) → EntriesAt bytes d m keys r rs es rest → IsRowIn lo stop r → stop ≤ length bytes
      → AreRowsIn (length bytes) stop rs → EntriesInside (length bytes) es × (lo ≤ entries_end none es) × (entries_end none es ≤ length bytes)
  entries_tree bytes utf8 d m keys lo stop none r rs _ rest (nodes.EntriesAt.last_entry {v = v} {t = t} h ends) row le rows =
      let x = entry_tree bytes utf8 d m keys lo stop r rs v t rest h row le rows in
      let s = inside_span (length bytes) t x.1.0 in
      ((x.0, x.1.0, tt), omega (arith, x.1.1, s.0), s.1)
  entries_tree bytes utf8 d m keys lo stop none r rs _ rest (nodes.EntriesAt.more_entries {next = next} {later = later} {v = v} {t = t} {es = es} h more) row le rows =
      let x = entry_tree bytes utf8 d m keys lo stop r rs v t (next ∷ later) h row le rows in
      let k : AreRowsIn (length bytes) stop (next ∷ later) = rows_end (length bytes) stop rs (next ∷ later) (entry-rows bytes d m keys r rs v t (next ∷ later) h) rows in
      let behind = row_behind lo stop r row in
      let low = row.low in
      let y = entries_tree bytes utf8 d m (keys ++ v.text ∷ []) lo k.0 (span_of t).end next later es rest more (row_low stop lo k.0 next (omega (arith, behind, low)) k.1) k.2 k.3 in
      ((x.0, x.1.0, y.0), y.1, y.2)

  pub entry_tree : (bytes : List ℕ) (utf8 : IsUtf8 bytes) (d m : ℕ) (keys : List (List ℕ)) (lo stop : ℕ) (r : ContentRow) (rs : List ContentRow) (v : Value) (t : Tree) (rest : List ContentRow) → EntryAt bytes d m keys r rs v t rest → IsRowIn lo stop r → stop ≤ length bytes
      → AreRowsIn (length bytes) stop rs → ScalarInside (length bytes) v × TreeFrom (length bytes) lo t
  entry_tree bytes utf8 d m keys lo stop r rs v t rest (nodes.EntryAt.an_entry {k = k} {colon = colon} {behind = behind} e b i new h) row le rows =
      let s = entry_key_in stop r k colon behind b (row.rises, row.utf8) in
      let x = key_from stop r.first r.rest k colon behind v s row.rises i in
      let low = row.low in
      let begin = row.begin in
      let at = s.low in
      (scalar_wide stop (length bytes) v le x.0, entry_value_tree bytes utf8 d m r.begin lo stop colon behind rs t rest h (omega (arith, begin, at)) (omega (arith, low, at)) s.within s.rest_in le rows)

  pub entry_value_tree : (bytes : List ℕ) (utf8 : IsUtf8 bytes) (d m begin lo stop : ℕ) (colon : Cell) (behind : List Cell) (rs : List ContentRow) (t : Tree) (rest : List ContentRow) → EntryValue bytes d m begin colon behind rs t rest → begin ≤ colon.at → lo ≤ colon.at
      → suc colon.at ≤ stop → LeftIn stop colon.at behind → stop ≤ length bytes → AreRowsIn (length bytes) stop rs → TreeFrom (length bytes) lo t
  entry_value_tree bytes utf8 d m begin lo stop colon behind rs t rest (nodes.EntryValue.value_here {left = left} c e without h) b low within cells le rows =
      let row : IsRowIn colon.at stop left = left_in begin behind left colon.at stop e b cells.1 cells.0 in
      let at = row.low in
      tree_low (length bytes) left.first.at lo t (omega (arith, low, at)) (value_tree bytes utf8 (suc m) d colon.at stop left rs t rest h row le rows)
  entry_value_tree bytes utf8 d m begin lo stop colon behind _ t rest (nodes.EntryValue.value_below {next = next} {rs = rs} c e lt h) b low within cells le rows =
      tree_low (length bytes) stop lo t (omega (arith, low, within)) (node_tree bytes utf8 (suc m) d stop rows.0 next rs t rest h rows.1 rows.2 rows.3)
  entry_value_tree bytes utf8 d m begin lo stop colon behind _ t rest (nodes.EntryValue.value_beside {next = next} {rs = rs} c e same i h) b low within cells le rows =
      tree_low (length bytes) stop lo t (omega (arith, low, within)) (block_tree bytes utf8 d true stop rows.0 next rs t rest h rows.1 rows.2 rows.3)
  entry_value_tree bytes utf8 d m begin lo stop colon behind rs _ _ (nodes.EntryValue.value_missing d2 c e none) b low within cells le rows =
      (empty_inside (length bytes) (suc colon.at) (omega (arith, within, le)), omega (arith, low))

document_tree : (bytes : List ℕ) → IsUtf8 bytes → (rs : List ContentRow) (t : Tree) → DocumentAt bytes rs t → AreRowsIn (length bytes) 0 rs → Inside (length bytes) t
document_tree bytes utf8 _ _ nothing rows = empty_inside (length bytes) 0 (omega arith)
document_tree bytes utf8 _ t (a_node {r = r} {rs = rs} h) rows = (node_tree bytes utf8 0 16 0 rows.0 r rs t [] h rows.1 rows.2 rows.3).0

pub tree_inside : (bytes : List ℕ) (t : Tree) → IsTree bytes t → Inside (length bytes) t
tree_inside bytes t h = document_tree bytes h.characters.0 (document_rows bytes) t h.document (document_in bytes h.characters.0)

-- so it is with the tree that is answered
pub found_inside : (bytes : List ℕ) (r : Result Node Refusal) → Found tree (IsTree bytes) r → IfOk r (λ n. Inside (length bytes) (tree n))
found_inside bytes (Ok n) h = tree_inside bytes (tree n) h
found_inside bytes (Err e) h = tt
