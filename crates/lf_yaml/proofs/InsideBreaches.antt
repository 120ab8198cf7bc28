-- The span of each breach of a file lies in it.
use Rattle.std.proofs.Common.{◌≡◌, ℕ, suc, ◌+◌, ◌<◌, ◌≤◌, Bool, true, false, not, List, [], ◌∷◌, ◌++◌, length, drop, eqb, Some, refl, ap, arith, sym, ◌∙◌, subst, inl, inr}
use Rattle.std.specs.Str.{IsUtf8, IsCharBoundary}
use Rattle.std.proofs.lemmas.Bool.{and_parts, cases_Bool}
use Rattle.std.proofs.lemmas.Str.{IsCharBoundary-start, IsCharBoundary-from_rest}
use Rattle.std.proofs.lemmas.Option.{none-some, same_Some}
use Rattle.lf_base.specs.declared.kind.Kind.TheVariants.{TooDeep, NotANode}
use Rattle.lf_base.specs.declared.fault.Fault.{Fault}
use Rattle.lf_base.specs.Faults.{LiesIn}
use Rattle.lf_scalar.specs.Cells.{Cell, bytes_of, character_fault}
use Rattle.lf_scalar.specs.Quoted.{WrongBehind}
use Rattle.lf_scalar.specs.Scalars.{begins, source_at}
use Rattle.lf_scalar.proofs.Characters.{byte_lies}
use Rattle.lf_scalar.proofs.Rising.{Rises, rises-le}
use Rattle.lf_scalar.proofs.Tails.{wrong-told, from-front}
use Rattle.lf_scalar.proofs.Within.{rises_high, wrong_lies, style_lies}
use Rattle.lf_yaml.specs.Rows.{ContentRow, row, indent, text_of, left_of, tab_in, is_left_out}
use Rattle.lf_yaml.specs.Heads.{is_item, Key, KeyBreaks, BeginsEntry, style_of, begins_scalar}
use Rattle.lf_yaml.specs.Heads as heads
use Rattle.lf_yaml.specs.Breaches.{ScalarBreaksOn, ValueBreaks, NodeBreaks, BlockBreaks, ItemsBreak, ItemValueBreaks, EntriesBreak, EntryValueBreaks}
use Rattle.lf_yaml.specs.Breaches as breaks
use Rattle.lf_yaml.specs.Document.{document_rows, DocumentBreaks, broken_node, behind_block, behind_value, TreeBreaks, bad_characters, bad_document}
use Rattle.lf_yaml.specs.views.Cursor.{IsPlaced}
use Rattle.lf_yaml.proofs.Ends.{IsEnd, end-holds}
use Rattle.lf_yaml.proofs.BlockRows.{block-rows, item-rows, entry-rows}
use Rattle.lf_yaml.proofs.BlockTells.{entry-suffix}
use Rattle.lf_yaml.proofs.FileCharacters.{characters_lie}
use Rattle.lf_yaml.proofs.InsideRows.{IsRowIn, row_behind, left_in, first_lies, indent_lies, row_lies, AreRowsIn, rows_end, source_utf8, source_rises, document_in}
use Rattle.lf_yaml.proofs.InsideScalars.{entry_key_in, key_from, escape_lies}
use Rattle.lf_yaml.proofs.InsideFlow.{line_in, sequence_behind, sequence_lies, mapping_behind, mapping_lies}
use Rattle.lf_yaml.proofs.FlowLines.{short-drop}
use Rattle.lf_yaml.proofs.FlowParts.{ascii-boundary}
use Rattle.lf_yaml.specs.Flow.{line_on}
use Rattle.lf_yaml.proofs.InsideTrees.{left_item}
use Rattle.lf_yaml.proofs.Laws.{rows-of-document}
use Rattle.lf_yaml.proofs.Placed.{first-cell, ArePlaced, placed-left}
use Rattle.lf_yaml.proofs.Values.{value-rows}

-- a row that lies in a file of n bytes and stands where it says, and the rows behind its line
pub record RowsAt (bytes : List ℕ) (lo : ℕ) (r : ContentRow) (rs : List ContentRow) : Type 0 where
  pub stop : ℕ
  pub row : IsRowIn lo stop r
  pub within : stop ≤ length bytes
  pub rows : AreRowsIn (length bytes) stop rs
  pub placed : IsPlaced bytes r
  pub are_placed : ArePlaced bytes rs

rows_at : (bytes : List ℕ) (lo : ℕ) (r : ContentRow) (rs : List ContentRow) → AreRowsIn (length bytes) lo (r ∷ rs) → ArePlaced bytes (r ∷ rs) → RowsAt bytes lo r rs
rows_at bytes lo r rs h p = record { stop = h.0; row = h.1; within = h.2; rows = h.3; placed = p.0; are_placed = p.1 }

module _ (bytes : List ℕ) (lo : ℕ) (r : ContentRow) (rs : List ContentRow) (h : RowsAt bytes lo r rs) where
  -- the first of the rows that something leaves
  last_rows : (next : ContentRow) (later : List ContentRow) → IsEnd rs (next ∷ later) → RowsAt bytes h.stop next later
  last_rows next later e = rows_at bytes h.stop next later (rows_end (length bytes) h.stop rs (next ∷ later) e h.rows) (end-holds (IsPlaced bytes) rs (next ∷ later) e h.are_placed)

  -- what is left of the row
  left_at : (low : ℕ) (left : ContentRow) (front cs : List Cell) → IsRowIn low h.stop left → text_of r ≡ front ++ cs → left_of r.begin cs ≡ Some left → RowsAt bytes low left rs
  left_at low left front cs row e l = record { stop = h.stop; row = row; within = h.within; rows = h.rows; placed = placed-left bytes r left front cs r.begin h.placed e l; are_placed = h.are_placed }

  below_first : LiesIn (length bytes) (character_fault TooDeep r.first).span
  below_first = first_lies (length bytes) lo h.stop r h.row h.within TooDeep

  starts : IsCharBoundary bytes r.first.at
  starts =
      let k = row_behind lo h.stop r h.row in
      let le = h.within in
      let first = first-cell (length bytes) r.first.at (drop r.first.at bytes) r.first r.rest h.placed in
      let b : IsCharBoundary (r.first.byte ∷ first.later) 0 = (omega arith, λ lt high. (IsCharBoundary-start (r.first.byte ∷ bytes_of r.rest) h.row.utf8).1 (omega arith) high) in
      let z : r.first.at + 0 ≡ r.first.at = omega arith in
      subst (IsCharBoundary bytes) z (IsCharBoundary-from_rest bytes r.first.at 0 (omega (arith, k, le)) (subst (λ (bs : List ℕ). IsCharBoundary bs 0) (sym first.bytes) b))

  -- behind the row's first byte
  behind_first : IsUtf8 bytes → r.first.byte < 128 → IsCharBoundary bytes (suc r.first.at)
  behind_first utf8 low =
      let first = first-cell (length bytes) r.first.at (drop r.first.at bytes) r.first r.rest h.placed in
      let x = short-drop r.first.at r.first.byte first.later bytes first.bytes in
      ascii-boundary bytes r.first utf8 (x.0, x.1) low

  scalar_breach : IsUtf8 bytes → (above : ℕ) (f : Fault) → begins_scalar r ≡ true → ScalarBreaksOn bytes above r f → LiesIn (length bytes) f.span
  scalar_breach utf8 above f b s =
      let k = row_behind lo h.stop r h.row in
      let le = h.within in
      style_lies (style_of r.first) above (length bytes) r.first.at (source_at bytes r.first.at) f (source_utf8 bytes utf8 r.first.at starts) (source_rises bytes utf8 r.first.at (omega (arith, k, le)))
      (ap (begins (style_of r.first)) h.placed ∙ (and_parts (begins (style_of r.first) (text_of r)) (not (is_left_out r)) b).0) s

-- what stands behind a bracket that closes
wrong_breach : (bytes : List ℕ) (at : ℕ) (wrong : Cell) → IsUtf8 bytes → IsCharBoundary bytes at → WrongBehind (line_on bytes at).text wrong → LiesIn (length bytes) (character_fault NotANode wrong).span
wrong_breach bytes at wrong utf8 b w =
    let h = line_in bytes utf8 at b in
    wrong_lies false (line_on bytes at).text wrong at (length bytes) (wrong-told false (line_on bytes at).text wrong (from-front (line_on bytes at).text wrong w)) h.1 h.0 NotANode

value_breach : (bytes : List ℕ) (utf8 : IsUtf8 bytes) (above d lo : ℕ) (r : ContentRow) (rs : List ContentRow) (f : Fault) → ValueBreaks bytes above d r rs f → RowsAt bytes lo r rs → LiesIn (length bytes) f.span
value_breach bytes utf8 above d lo r _ f (breaks.ValueBreaks.scalar rs b s) h = scalar_breach bytes lo r rs h utf8 above f b s
value_breach bytes utf8 above d lo r _ _ (breaks.ValueBreaks.no_value d2 rs b q) h = row_lies (length bytes) lo h.stop r h.row h.within
value_breach bytes utf8 above _ lo r _ _ (breaks.ValueBreaks.deep rs q) h = below_first bytes lo r rs h
value_breach bytes utf8 above _ lo r _ f (breaks.ValueBreaks.flow_sequence rs d q s) h = sequence_lies bytes utf8 (suc r.first.at) f s (behind_first bytes lo r rs h utf8 (omega (arith, q)))
value_breach bytes utf8 above _ lo r _ _ (breaks.ValueBreaks.behind_sequence {is = is} {closing = closing} {wrong = wrong} rs d q s w) h =
    wrong_breach bytes (suc closing.at) wrong utf8 (sequence_behind bytes utf8 (suc r.first.at) is closing s) w
value_breach bytes utf8 above _ lo r _ f (breaks.ValueBreaks.flow_mapping rs d q s) h = mapping_lies bytes utf8 [] (suc r.first.at) f s (behind_first bytes lo r rs h utf8 (omega (arith, q)))
value_breach bytes utf8 above _ lo r _ _ (breaks.ValueBreaks.behind_mapping {es = es} {closing = closing} {wrong = wrong} rs d q s w) h =
    wrong_breach bytes (suc closing.at) wrong utf8 (mapping_behind bytes utf8 [] (suc r.first.at) es closing s) w

key_breach : (n lo stop : ℕ) (r : ContentRow) (k : Key) (colon : Cell) (behind : List Cell) (f : Fault) → BeginsEntry r k colon behind → KeyBreaks r.first r.rest k f → IsRowIn lo stop r → stop ≤ n → LiesIn n f.span
key_breach n lo stop r _ colon behind f (heads.BeginsEntry.bare p l e) b h le = absurd b
key_breach n lo stop r _ colon behind f (heads.BeginsEntry.quoted kind between q l s p) b h le = escape_lies n kind r.first r.rest f (rises_high r.first.at (text_of r) stop n le h.rises) h.utf8 q b

-- what is left of a row behind a key's `:`
left_entry : (lo stop : ℕ) (r left : ContentRow) (k : Key) (colon : Cell) (behind : List Cell) → BeginsEntry r k colon behind → left_of r.begin behind ≡ Some left → IsRowIn lo stop r → IsRowIn colon.at stop left
left_entry lo stop r left k colon behind b e row =
    let s = entry_key_in stop r k colon behind b (row.rises, row.utf8) in
    let begin = row.begin in
    let at = s.low in
    left_in r.begin behind left colon.at stop e (omega (arith, begin, at)) s.rest_in.1 s.rest_in.0

-- a tab among the blanks behind an item's sign stands on its line
tab_lies : (lo : ℕ) (cs : List Cell) (tab : Cell) (hi : ℕ) → tab_in cs ≡ Some tab → Rises lo cs hi → suc tab.at ≤ hi
tab_lies lo [] tab hi e r = absurd (none-some tab e)
tab_lies lo (c ∷ cs) tab hi e r =
    elim (cases_Bool (eqb c.byte 32)) [
      | inl a ↦ tab_lies (suc c.at) cs tab hi (rw a at e) r.1
      | inr a ↦ elim (cases_Bool (eqb c.byte 9)) [
        | inl b ↦ (let same : c ≡ tab = same_Some c tab (rw (a, b) at e) in let k : suc c.at ≤ hi = rises-le (suc c.at) cs hi r.1 in omega (arith, k, ap (λ (x : Cell). x.at) same))
        | inr b ↦ absurd (none-some tab (rw (a, b) at e))
      ]
    ]

mutual
  node_breach : (bytes : List ℕ) (utf8 : IsUtf8 bytes) (above d lo : ℕ) (r : ContentRow) (rs : List ContentRow) (f : Fault) → NodeBreaks bytes above d r rs f → RowsAt bytes lo r rs → LiesIn (length bytes) f.span
  node_breach bytes utf8 above d lo r rs f (breaks.NodeBreaks.value without b) h = value_breach bytes utf8 above d lo r rs f b h
  node_breach bytes utf8 above d lo r rs f (breaks.NodeBreaks.block a b) h = block_breach bytes utf8 d false lo r rs f b h

  block_breach : (bytes : List ℕ) (utf8 : IsUtf8 bytes) (d : ℕ) (own : Bool) (lo : ℕ) (r : ContentRow) (rs : List ContentRow) (f : Fault) → BlockBreaks bytes d own r rs f → RowsAt bytes lo r rs → LiesIn (length bytes) f.span
  block_breach bytes utf8 _ own lo r rs _ (breaks.BlockBreaks.too_deep o xs b) h = below_first bytes lo r rs h
  block_breach bytes utf8 _ own lo r rs f (breaks.BlockBreaks.block_sequence {d = d} i b) h = items_breach bytes utf8 d own (indent r) lo r rs f b h
  block_breach bytes utf8 _ own lo r rs f (breaks.BlockBreaks.block_mapping {d = d} b e) h = entries_breach bytes utf8 d (indent r) [] lo r rs f e h

  items_breach : (bytes : List ℕ) (utf8 : IsUtf8 bytes) (d : ℕ) (own : Bool) (m lo : ℕ) (r : ContentRow) (rs : List ContentRow) (f : Fault) → ItemsBreak bytes d own m r rs f → RowsAt bytes lo r rs → LiesIn (length bytes) f.span
  items_breach bytes utf8 d own m lo r rs _ (breaks.ItemsBreak.deeper_item d2 o xs lt) h = indent_lies (length bytes) lo h.stop r h.row h.within
  items_breach bytes utf8 d _ m lo r rs _ (breaks.ItemsBreak.no_item d2 xs e i) h = row_lies (length bytes) lo h.stop r h.row h.within
  items_breach bytes utf8 d own m lo r rs f (breaks.ItemsBreak.item_value o e i b) h = item_breach bytes utf8 d m lo r rs f i b h
  items_breach bytes utf8 d own m lo r rs f (breaks.ItemsBreak.later_item {next = next} {later = later} {t = t} e i v b) h =
      items_breach bytes utf8 d own m h.stop next later f b (last_rows bytes lo r rs h next later (item-rows bytes d m r rs t (next ∷ later) v))

  item_breach : (bytes : List ℕ) (utf8 : IsUtf8 bytes) (d m lo : ℕ) (r : ContentRow) (rs : List ContentRow) (f : Fault) → is_item r ≡ true → ItemValueBreaks bytes d m r rs f → RowsAt bytes lo r rs → LiesIn (length bytes) f.span
  item_breach bytes utf8 d m lo r rs f i (breaks.ItemValueBreaks.item_here {left = left} tab e b) h =
      node_breach bytes utf8 (suc m) d (suc r.first.at) left rs f b (left_at bytes lo r rs h (suc r.first.at) left (r.first ∷ []) r.rest (left_item lo h.stop r left i e h.row) refl e)
  item_breach bytes utf8 d m lo r _ f i (breaks.ItemValueBreaks.item_below {next = next} {rs = rs} tab e lt b) h =
      node_breach bytes utf8 (suc m) d h.stop next rs f b (rows_at bytes h.stop next rs h.rows h.are_placed)
  item_breach bytes utf8 d m lo r rs _ i (breaks.ItemValueBreaks.item_tab {tab = tab} d2 xs e) h =
      let k : suc tab.at ≤ h.stop = tab_lies (suc r.first.at) r.rest tab h.stop e h.row.rises.1 in
      byte_lies tab.at (length bytes) (omega (arith, k, h.within))

  entries_breach : (bytes : List ℕ) (utf8 : IsUtf8 bytes) (d m : ℕ) (keys : List (List ℕ)) (lo : ℕ) (r : ContentRow) (rs : List ContentRow) (f : Fault) → EntriesBreak bytes d m keys r rs f → RowsAt bytes lo r rs → LiesIn (length bytes) f.span
  entries_breach bytes utf8 d m keys lo r rs _ (breaks.EntriesBreak.deeper_entry d2 ks xs lt) h = indent_lies (length bytes) lo h.stop r h.row h.within
  entries_breach bytes utf8 d m keys lo r rs _ (breaks.EntriesBreak.open_key d2 ks xs e o) h =
      let k = row_behind lo h.stop r h.row in
      let le = h.within in
      byte_lies r.first.at (length bytes) (omega (arith, k, le))
  entries_breach bytes utf8 d m keys lo r rs _ (breaks.EntriesBreak.no_entry d2 ks xs e without o) h = row_lies (length bytes) lo h.stop r h.row h.within
  entries_breach bytes utf8 d m keys lo r rs f (breaks.EntriesBreak.broken_key {k = k} {colon = colon} {behind = behind} d2 ks xs e b broken) h = key_breach (length bytes) lo h.stop r k colon behind f b broken h.row h.within
  entries_breach bytes utf8 d m keys lo r rs _ (breaks.EntriesBreak.second_key {k = k} {colon = colon} {behind = behind} v d2 xs e b i there) h =
      let rises = rises_high r.first.at (text_of r) h.stop (length bytes) h.within h.row.rises in
      (key_from (length bytes) r.first r.rest k colon behind v (entry_key_in (length bytes) r k colon behind b (rises, h.row.utf8)) rises i).0.0
  entries_breach bytes utf8 d m keys lo r rs f (breaks.EntriesBreak.entry_value {k = k} {colon = colon} {behind = behind} v e b i new broken) h = entry_breach bytes utf8 d m lo r k colon behind rs f b broken h
  entries_breach bytes utf8 d m keys lo r rs f (breaks.EntriesBreak.later_entry {next = next} {later = later} {v = v} {t = t} e b) h =
      entries_breach bytes utf8 d m (keys ++ v.text ∷ []) h.stop next later f b (last_rows bytes lo r rs h next later (entry-rows bytes d m keys r rs v t (next ∷ later) e))

  entry_breach : (bytes : List ℕ) (utf8 : IsUtf8 bytes) (d m lo : ℕ) (r : ContentRow) (k : Key) (colon : Cell) (behind : List Cell) (rs : List ContentRow) (f : Fault) → BeginsEntry r k colon behind → EntryValueBreaks bytes d m r.begin behind rs f → RowsAt bytes lo r rs
      → LiesIn (length bytes) f.span
  entry_breach bytes utf8 d m lo r k colon behind rs _ b (breaks.EntryValueBreaks.block_here {left = left} d2 xs e block) h =
      first_lies (length bytes) colon.at h.stop left (left_entry lo h.stop r left k colon behind b e h.row) h.within NotANode
  entry_breach bytes utf8 d m lo r k colon behind rs f b (breaks.EntryValueBreaks.value_here {left = left} e without broken) h =
      let s = entry-suffix r k colon behind b in
      value_breach bytes utf8 (suc m) d colon.at left rs f broken (left_at bytes lo r rs h colon.at left s.0 behind (left_entry lo h.stop r left k colon behind b e h.row) s.1 e)
  entry_breach bytes utf8 d m lo r k colon behind _ f b (breaks.EntryValueBreaks.value_below {next = next} {rs = rs} e lt broken) h =
      node_breach bytes utf8 (suc m) d h.stop next rs f broken (rows_at bytes h.stop next rs h.rows h.are_placed)
  entry_breach bytes utf8 d m lo r k colon behind _ f b (breaks.EntryValueBreaks.value_beside {next = next} {rs = rs} e same i broken) h =
      block_breach bytes utf8 d true h.stop next rs f broken (rows_at bytes h.stop next rs h.rows h.are_placed)

document_breach : (bytes : List ℕ) → IsUtf8 bytes → (rs : List ContentRow) (f : Fault) → DocumentBreaks bytes rs f → AreRowsIn (length bytes) 0 rs → ArePlaced bytes rs → LiesIn (length bytes) f.span
unfolding rows_at
document_breach bytes utf8 _ f (broken_node {r = r} {rs = rs} b) rows placed = node_breach bytes utf8 0 16 0 r rs f b (rows_at bytes 0 r rs rows placed)
document_breach bytes utf8 _ _ (behind_block {r = r} {next = next} {rs = rs} {later = later} {t = t} b) rows placed =
    let k = last_rows bytes 0 r rs (rows_at bytes 0 r rs rows placed) next later (block-rows bytes 16 false r rs t (next ∷ later) b) in
    indent_lies (length bytes) rows.0 k.stop next k.row k.within
document_breach bytes utf8 _ _ (behind_value {r = r} {next = next} {rs = rs} {later = later} {t = t} without b) rows placed =
    let k = last_rows bytes 0 r rs (rows_at bytes 0 r rs rows placed) next later (value-rows bytes 0 16 r rs t (next ∷ later) b) in
    row_lies (length bytes) rows.0 k.stop next k.row k.within

pub breach_inside : (bytes : List ℕ) (f : Fault) → TreeBreaks bytes f → LiesIn (length bytes) f.span
breach_inside bytes f (bad_characters b) = characters_lie bytes f b
breach_inside bytes f (bad_document are b) = document_breach bytes are.0 (document_rows bytes) f b (document_in bytes are.0) (rows-of-document bytes)
