-- Block sequences and mappings are read: what stands is read.
use Rattle.std.proofs.Common.{◌≡◌, ℕ, zero, suc, ◌<◌, Bool, true, false, List, [], ◌∷◌, ◌++◌, Ok, length, refl, ap, arith, ◌∙◌, inl, inr}
use Rattle.std.specs.Prelude.{Contains}
use Rattle.lf_scalar.specs.Cells.{Cell, Value}
use Rattle.lf_yaml.specs.Rows.{ContentRow, indent}
use Rattle.lf_yaml.specs.Heads.{is_item, Key, BeginsEntry}
use Rattle.lf_yaml.specs.Tree.{Tree, Items, no_items, Entries, no_entries}
use Rattle.lf_yaml.specs.Nodes.{NodeAt, BlockAt, ItemsAt, ItemValue, EntriesAt, EntryAt, EntryValue, value, block, block_sequence, block_mapping, last_item, more_items, item_here, item_below, item_empty, last_entry, more_entries, an_entry, value_here, value_below, value_beside, value_missing}
use Rattle.lf_yaml.specs.reading.Trees.{key_of, begins_block, Read, Reader, item_at, item_value, with_item, items_behind, items, entry_at, entry_value, with_entry, EntryValues, entries_behind, keyed, key_read, entries_on, entries, as_sequence, as_mapping, node_at}
use Rattle.lf_yaml.proofs.Ends.{end-length}
use Rattle.lf_yaml.proofs.HeadLaws.{entry-is, key-is, has-tells, begins-block, begins-no-block}
use Rattle.lf_yaml.proofs.HeadLaws as heads
use Rattle.lf_yaml.proofs.Values.{value-is}
use Rattle.lf_yaml.proofs.BlockRows.{item-rows, entry-rows}
use Rattle.lf_yaml.proofs.Steps.{inner, owned, values, value-node, sequence-node, mapping-node, at-indent, items-end, entries-end, item-nothing, entry-nothing}
use Rattle.lf_yaml.proofs.Steps as steps

-- ---- how collections begin

pub items-begin : (bytes : List ℕ) (d : ℕ) (own : Bool) (m : ℕ) (r : ContentRow) (rs : List ContentRow) (is : Items) (rest : List ContentRow) → ItemsAt bytes d own m r rs is rest → is_item r ≡ true
items-begin bytes d own m r rs _ rest (last_item e i h ends) = i
items-begin bytes d own m r rs _ rest (more_items e i h more) = i

pub record Begins (r : ContentRow) : Type 0 where
  pub key : Key
  pub colon : Cell
  pub behind : List Cell
  pub entry : BeginsEntry r key colon behind

entry-begins : (bytes : List ℕ) (d m : ℕ) (keys : List (List ℕ)) (r : ContentRow) (rs : List ContentRow) (v : Value) (t : Tree) (rest : List ContentRow) → EntryAt bytes d m keys r rs v t rest → Begins r
entry-begins bytes d m keys r rs v t rest (an_entry {k = k} {colon = colon} {behind = behind} e b i n h) = record { key = k; colon = colon; behind = behind; entry = b }

pub entries-begin : (bytes : List ℕ) (d m : ℕ) (keys : List (List ℕ)) (r : ContentRow) (rs : List ContentRow) (es : Entries) (rest : List ContentRow) → EntriesAt bytes d m keys r rs es rest → Begins r
entries-begin bytes d m keys r rs _ rest (last_entry {v = v} {t = t} h ends) = entry-begins bytes d m keys r rs v t rest h
entries-begin bytes d m keys r rs _ rest (more_entries {next = next} {later = later} {v = v} {t = t} h more) = entry-begins bytes d m keys r rs v t (next ∷ later) h

pub begins-mapping : (r : ContentRow) (b : Begins r) → begins_block r ≡ true
begins-mapping r b = begins-block r (inr (b.key, b.colon, b.behind, b.entry))

pub mapping-no-item : (r : ContentRow) → Begins r → is_item r ≡ false
mapping-no-item r b = heads.entry-no-item r b.key b.colon b.behind b.entry

-- a key that is new
pub new-key : (read_value : EntryValues) (later : List (List ℕ) → List ContentRow → Read Entries) (keys : List (List ℕ)) (r : ContentRow) (rs : List ContentRow) (colon : Cell) (behind : List Cell) (v : Value) → (Contains keys v.text → ⊥)
    → keyed read_value later keys r rs colon behind v ≡ entries_behind v (λ rows. later (keys ++ v.text ∷ []) rows) (read_value r.begin colon behind rs)
new-key read_value later keys r rs colon behind v n =
    elim (has-tells keys v.text) [
      | inl h ↦ absurd (n h.1)
      | inr h ↦ rw h.0 refl
    ]

-- an item at its indent
pub at-item : (node : Reader) (n : ℕ) (own : Bool) (m : ℕ) (r : ContentRow) (rs : List ContentRow) (read : Read Tree) → indent r ≡ m → is_item r ≡ true → item_value node m r rs ≡ read
    → items node (suc n) own m (r ∷ rs) ≡ items_behind (λ rows. items node n own m rows) read
unfolding items
at-item node n own m r rs read e i h = at-indent m r rs no_items _ e ∙ rw i (ap (items_behind (λ rows. items node n own m rows)) h)

-- an entry at its indent, up to its key
pub at-entry : (read_value : EntryValues) (n m : ℕ) (keys : List (List ℕ)) (r : ContentRow) (rs : List ContentRow) (k : Key) (colon : Cell) (behind : List Cell) → indent r ≡ m → BeginsEntry r k colon behind
    → entries read_value (suc n) m keys (r ∷ rs) ≡ key_read read_value (λ ks rows. entries read_value n m ks rows) keys r rs colon behind (key_of r.first r.rest k)
unfolding entries
at-entry read_value n m keys r rs k colon behind e b = at-indent m r rs no_entries _ e ∙ ap (entries_on read_value (λ ks rows. entries read_value n m ks rows) keys r rs) (entry-is r k colon behind b)

-- ---- what stands is read

mutual
  unfolding items entries

  pub node-is : (bytes : List ℕ) (above d : ℕ) (r : ContentRow) (rs : List ContentRow) (t : Tree) (rest : List ContentRow) → NodeAt bytes above d r rs t rest → node_at bytes d false above r rs ≡ Ok (t, rest)
  node-is bytes above d r rs t rest (value n h) = value-node bytes d false above r rs n ∙ value-is bytes above d r rs t rest h
  node-is bytes above d r rs t rest (block a h) = block-is bytes above d false r rs t rest h

  pub block-is : (bytes : List ℕ) (above d : ℕ) (own : Bool) (r : ContentRow) (rs : List ContentRow) (t : Tree) (rest : List ContentRow) → BlockAt bytes d own r rs t rest → node_at bytes d own above r rs ≡ Ok (t, rest)
  block-is bytes above _ own r rs _ rest (block_sequence {d = d} {is = is} h) =
      sequence-node bytes d own above r rs (items-begin bytes d own (indent r) r rs is rest h) ∙ ap (as_sequence r) (items-is bytes d own (indent r) (suc (length (r ∷ rs))) r rs is rest (omega arith) h)
  block-is bytes above _ own r rs _ rest (block_mapping {d = d} {es = es} h) =
      let b = entries-begin bytes d (indent r) [] r rs es rest h in
      mapping-node bytes d false above r rs (mapping-no-item r b) (begins-mapping r b) ∙ ap (as_mapping r) (entries-is bytes d (indent r) (suc (length (r ∷ rs))) [] r rs es rest (omega arith) h)

  pub items-is : (bytes : List ℕ) (d : ℕ) (own : Bool) (m n : ℕ) (r : ContentRow) (rs : List ContentRow) (is : Items) (rest : List ContentRow) → length (r ∷ rs) < n → ItemsAt bytes d own m r rs is rest
      → items (inner bytes d) n own m (r ∷ rs) ≡ Ok (is, rest)
  items-is bytes d own m zero r rs is rest lt h = absurd (omega arith)
  items-is bytes d own m (suc n) r rs _ rest lt (last_item {t = t} e i h ends) =
      at-item (inner bytes d) n own m r rs _ e i (item-is bytes d m r rs t rest h) ∙ ap (with_item t) (items-end (inner bytes d) n own m rest (omega arith) ends)
  items-is bytes d own m (suc n) r rs _ rest lt (more_items {next = next} {later = later} {t = t} {is = is} e i h more) =
      let k = end-length rs (next ∷ later) (item-rows bytes d m r rs t (next ∷ later) h) in
      at-item (inner bytes d) n own m r rs _ e i (item-is bytes d m r rs t (next ∷ later) h) ∙ ap (with_item t) (items-is bytes d own m n next later is rest (omega (arith, k)) more)

  pub item-is : (bytes : List ℕ) (d m : ℕ) (r : ContentRow) (rs : List ContentRow) (t : Tree) (rest : List ContentRow) → ItemValue bytes d m r rs t rest → item_value (inner bytes d) m r rs ≡ Ok (t, rest)
  item-is bytes d m r rs t rest (item_here {left = left} tab e h) = rw tab (ap (item_at (inner bytes d) m (suc r.first.at) rs) e ∙ node-is bytes (suc m) d left rs t rest h)
  item-is bytes d m r _ t rest (item_below {next = next} {rs = rs} tab e lt h) =
      rw tab (ap (item_at (inner bytes d) m (suc r.first.at) (next ∷ rs)) e ∙ steps.item-below (inner bytes d) m (suc r.first.at) next rs lt ∙ node-is bytes (suc m) d next rs t rest h)
  item-is bytes d m r rs _ _ (item_empty e2 tab e h) = rw tab (ap (item_at (inner bytes d) m (suc r.first.at) rs) e ∙ item-nothing (inner bytes d) m (suc r.first.at) rs h)

  pub entries-is : (bytes : List ℕ) (d m n : ℕ) (keys : List (List ℕ)) (r : ContentRow) (rs : List ContentRow) (es : Entries) (rest : List ContentRow) → length (r ∷ rs) < n → EntriesAt bytes d m keys r rs es rest
      → entries (values bytes d m) n m keys (r ∷ rs) ≡ Ok (es, rest)
  entries-is bytes d m zero keys r rs es rest lt h = absurd (omega arith)
  entries-is bytes d m (suc n) keys r rs _ rest lt (last_entry {v = v} {t = t} h ends) =
      one-entry-is bytes d m n keys r rs v t rest h ∙ ap (with_entry v t) (entries-end (values bytes d m) n m (keys ++ v.text ∷ []) rest (omega arith) ends)
  entries-is bytes d m (suc n) keys r rs _ rest lt (more_entries {next = next} {later = later} {v = v} {t = t} {es = es} h more) =
      let k = end-length rs (next ∷ later) (entry-rows bytes d m keys r rs v t (next ∷ later) h) in
      one-entry-is bytes d m n keys r rs v t (next ∷ later) h ∙ ap (with_entry v t) (entries-is bytes d m n (keys ++ v.text ∷ []) next later es rest (omega (arith, k)) more)

  pub one-entry-is : (bytes : List ℕ) (d m n : ℕ) (keys : List (List ℕ)) (r : ContentRow) (rs : List ContentRow) (v : Value) (t : Tree) (rest : List ContentRow) → EntryAt bytes d m keys r rs v t rest
      → entries (values bytes d m) (suc n) m keys (r ∷ rs) ≡ with_entry v t (entries (values bytes d m) n m (keys ++ v.text ∷ []) rest)
  one-entry-is bytes d m n keys r rs v t rest (an_entry {k = k} {colon = colon} {behind = behind} e b i new h) =
      let later = λ (ks : List (List ℕ)) (rows : List ContentRow). entries (values bytes d m) n m ks rows in
      at-entry (values bytes d m) n m keys r rs k colon behind e b ∙ ap (key_read (values bytes d m) later keys r rs colon behind) (key-is r.first r.rest k v i)
      ∙ new-key (values bytes d m) later keys r rs colon behind v new ∙ ap (entries_behind v (λ rows. later (keys ++ v.text ∷ []) rows)) (entry-value-is bytes d m r.begin colon behind rs t rest h)

  pub entry-value-is : (bytes : List ℕ) (d m begin : ℕ) (colon : Cell) (behind : List Cell) (rs : List ContentRow) (t : Tree) (rest : List ContentRow) → EntryValue bytes d m begin colon behind rs t rest
      → entry_value bytes d (owned bytes d) m begin colon behind rs ≡ Ok (t, rest)
  entry-value-is bytes d m begin colon behind rs t rest (value_here {left = left} c e n h) =
      ap (entry_at bytes d (owned bytes d) m (suc colon.at) rs) e ∙ rw (begins-no-block left n) (value-is bytes (suc m) d left rs t rest h)
  entry-value-is bytes d m begin colon behind _ t rest (value_below {next = next} {rs = rs} c e lt h) =
      ap (entry_at bytes d (owned bytes d) m (suc colon.at) (next ∷ rs)) e ∙ steps.entry-below (owned bytes d) m (suc colon.at) next rs lt ∙ node-is bytes (suc m) d next rs t rest h
  entry-value-is bytes d m begin colon behind _ t rest (value_beside {next = next} {rs = rs} c e same i h) =
      ap (entry_at bytes d (owned bytes d) m (suc colon.at) (next ∷ rs)) e ∙ steps.entry-beside (owned bytes d) m (suc colon.at) next rs same i ∙ block-is bytes (suc m) d true next rs t rest h
  entry-value-is bytes d m begin colon behind rs _ _ (value_missing d2 c e h) = ap (entry_at bytes d (owned bytes d) m (suc colon.at) rs) e ∙ entry-nothing (owned bytes d) m (suc colon.at) rs h
