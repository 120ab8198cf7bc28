-- Nodes leave the last of the rows that were there.
use Rattle.std.proofs.Common.{ℕ, suc, Bool, true, false, List, [], ◌∷◌, ◌++◌}
use Rattle.lf_scalar.specs.Cells.{Cell, Value}
use Rattle.lf_yaml.specs.Rows.{ContentRow}
use Rattle.lf_yaml.specs.Tree.{Tree, Items, Entries}
use Rattle.lf_yaml.specs.Nodes.{NodeAt, BlockAt, ItemsAt, ItemValue, EntriesAt, EntryAt, EntryValue, value, block, block_sequence, block_mapping, last_item, more_items, item_here, item_below, item_empty, last_entry, more_entries, an_entry, value_here, value_below, value_beside, value_missing}
use Rattle.lf_yaml.proofs.Ends.{IsEnd, end-all, end-behind, end-trans}
use Rattle.lf_yaml.proofs.Values.{value-rows}

mutual
  pub node-rows : (bytes : List ℕ) (above d : ℕ) (r : ContentRow) (rs : List ContentRow) (t : Tree) (rest : List ContentRow) → NodeAt bytes above d r rs t rest → IsEnd rs rest
  node-rows bytes above d r rs t rest (value n h) = value-rows bytes above d r rs t rest h
  node-rows bytes above d r rs t rest (block a h) = block-rows bytes d false r rs t rest h

  pub block-rows : (bytes : List ℕ) (d : ℕ) (own : Bool) (r : ContentRow) (rs : List ContentRow) (t : Tree) (rest : List ContentRow) → BlockAt bytes d own r rs t rest → IsEnd rs rest
  block-rows bytes _ own r rs _ rest (block_sequence {d = d} {is = is} h) = items-rows bytes d own _ r rs is rest h
  block-rows bytes _ own r rs _ rest (block_mapping {d = d} {es = es} h) = entries-rows bytes d _ [] r rs es rest h

  pub items-rows : (bytes : List ℕ) (d : ℕ) (own : Bool) (m : ℕ) (r : ContentRow) (rs : List ContentRow) (is : Items) (rest : List ContentRow) → ItemsAt bytes d own m r rs is rest → IsEnd rs rest
  items-rows bytes d own m r rs _ rest (last_item {t = t} e i h ends) = item-rows bytes d m r rs t rest h
  items-rows bytes d own m r rs _ rest (more_items {next = next} {later = later} {t = t} {is = is} e i h more) =
      end-trans rs (next ∷ later) rest (item-rows bytes d m r rs t (next ∷ later) h) (end-behind next later rest (items-rows bytes d own m next later is rest more))

  pub item-rows : (bytes : List ℕ) (d m : ℕ) (r : ContentRow) (rs : List ContentRow) (t : Tree) (rest : List ContentRow) → ItemValue bytes d m r rs t rest → IsEnd rs rest
  item-rows bytes d m r rs t rest (item_here {left = left} tab e h) = node-rows bytes (suc m) d left rs t rest h
  item-rows bytes d m r _ t rest (item_below {next = next} {rs = rs} tab e lt h) = end-behind next rs rest (node-rows bytes (suc m) d next rs t rest h)
  item-rows bytes d m r rs _ _ (item_empty d2 tab e h) = end-all rs

  pub entries-rows : (bytes : List ℕ) (d m : ℕ) (keys : List (List ℕ)) (r : ContentRow) (rs : List ContentRow) (es : Entries) (rest : List ContentRow) → EntriesAt bytes d m keys r rs es rest → IsEnd rs rest
  entries-rows bytes d m keys r rs _ rest (last_entry {v = v} {t = t} h ends) = entry-rows bytes d m keys r rs v t rest h
  entries-rows bytes d m keys r rs _ rest (more_entries {next = next} {later = later} {v = v} {t = t} {es = es} h more) =
      end-trans rs (next ∷ later) rest (entry-rows bytes d m keys r rs v t (next ∷ later) h) (end-behind next later rest (entries-rows bytes d m (keys ++ v.text ∷ []) next later es rest more))

  pub entry-rows : (bytes : List ℕ) (d m : ℕ) (keys : List (List ℕ)) (r : ContentRow) (rs : List ContentRow) (v : Value) (t : Tree) (rest : List ContentRow) → EntryAt bytes d m keys r rs v t rest → IsEnd rs rest
  entry-rows bytes d m keys r rs v t rest (an_entry {colon = colon} {behind = behind} e b k n h) = entry-value-rows bytes d m r.begin colon behind rs t rest h

  pub entry-value-rows : (bytes : List ℕ) (d m begin : ℕ) (colon : Cell) (behind : List Cell) (rs : List ContentRow) (t : Tree) (rest : List ContentRow) → EntryValue bytes d m begin colon behind rs t rest → IsEnd rs rest
  entry-value-rows bytes d m begin colon behind rs t rest (value_here {left = left} c e n h) = value-rows bytes (suc m) d left rs t rest h
  entry-value-rows bytes d m begin colon behind _ t rest (value_below {next = next} {rs = rs} c e lt h) = end-behind next rs rest (node-rows bytes (suc m) d next rs t rest h)
  entry-value-rows bytes d m begin colon behind _ t rest (value_beside {next = next} {rs = rs} c e same i h) = end-behind next rs rest (block-rows bytes d true next rs t rest h)
  entry-value-rows bytes d m begin colon behind rs _ _ (value_missing d2 c e h) = end-all rs
