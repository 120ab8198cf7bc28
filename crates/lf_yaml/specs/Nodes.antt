-- The nodes of a document by its rows: scalars, flow collections, block sequences and block mappings.
use Rattle.std.specs.Prelude.{◌≡◌, ℕ, suc, ◌<◌, ◌≤◌, List, [], ◌∷◌, ◌++◌, length, Bool, true, false, Some, None, ◌⊎◌, Contains}
use Rattle.lf_base.specs.Faults.{span}
use Rattle.lf_scalar.specs.Cells.{Cell, Value}
use Rattle.lf_scalar.specs.Lines.{is_tail}
use Rattle.lf_scalar.specs.Scalars.{IsOfStyle, source_at}
use Rattle.lf_yaml.specs.Rows.{ContentRow, indent, rows_from, left_of, tab_in}
use Rattle.lf_yaml.specs.Heads.{is_item, Key, IsKey, BeginsEntry, BeginsNoBlock, style_of, begins_scalar}
use Rattle.lf_yaml.specs.Flow.{line_on, SequenceIn, MappingIn}
use Rattle.lf_yaml.specs.Tree.{Tree, leaf, sequence, mapping, Items, no_items, item, Entries, no_entries, entry}
use Rattle.lf_yaml.specs.Spans.{items_end, entries_end, empty_at}

-- In all of these `d` is how many collections may nest, and an indent is above the parent's where it has at least `above` spaces.

-- the scalar that a row begins, as a value with this parent
abbrev pub IsScalarOn : List ℕ → ℕ → ContentRow → Value → Type 0
IsScalarOn bytes above r v = IsOfStyle (style_of r.first) above (length bytes) (source_at bytes r.first.at) v

-- `ValueAt bytes above d r rs t rest`: on the row r, behind which the rows rs stand, t is a scalar or a flow collection, and leaves the rows `rest`: those that begin
-- behind its span. Behind a closing bracket only blanks and a comment stand on its line.
pub data ValueAt (bytes : List ℕ) (above : ℕ) : ℕ → ContentRow → List ContentRow → Tree → List ContentRow → Type 0 where
  scalar : {d : ℕ} {r : ContentRow} {v : Value} (rs : List ContentRow) → begins_scalar r ≡ true → IsScalarOn bytes above r v → ValueAt bytes above d r rs (leaf v) (rows_from v.span.end rs)
  flow_sequence : {d : ℕ} {r : ContentRow} {is : Items} {closing : Cell} (rs : List ContentRow) → r.first.byte ≡ 91 → SequenceIn bytes (suc r.first.at) is closing → is_tail false (line_on bytes (suc closing.at)).text ≡ true
      → ValueAt bytes above (suc d) r rs (sequence is (span r.first.at (suc closing.at))) (rows_from (suc closing.at) rs)
  flow_mapping : {d : ℕ} {r : ContentRow} {es : Entries} {closing : Cell} (rs : List ContentRow) → r.first.byte ≡ 123 → MappingIn bytes [] (suc r.first.at) es closing → is_tail false (line_on bytes (suc closing.at)).text ≡ true
      → ValueAt bytes above (suc d) r rs (mapping es (span r.first.at (suc closing.at))) (rows_from (suc closing.at) rs)

-- no row is left whose indent is above m
abbrev pub NoneBelow : ℕ → List ContentRow → Type 0
NoneBelow m [] = Unit {0}
NoneBelow m (r ∷ rs) = indent r ≤ m

-- nor an item at m
abbrev pub NothingBelow : ℕ → List ContentRow → Type 0
NothingBelow m [] = Unit {0}
NothingBelow m (r ∷ rs) = (indent r < m) ⊎ ((indent r ≡ m) × (is_item r ≡ false))

-- A collection at m ends before a row with a smaller indent. A sequence at the indent of the mapping around it, for which `own` is true, ends also before a row at m that is no item.
abbrev pub Ends : Bool → ℕ → List ContentRow → Type 0
Ends own m [] = Unit {0}
Ends false m (r ∷ rs) = indent r < m
Ends true m (r ∷ rs) = (indent r < m) ⊎ ((indent r ≡ m) × (is_item r ≡ false))

mutual
  -- `NodeAt bytes above d r rs t rest`: the node t begins on the row r and leaves the rows `rest`: a block sequence or mapping if the row begins with an item or an entry, else a scalar or flow collection.
  pub data NodeAt (bytes : List ℕ) : ℕ → ℕ → ContentRow → List ContentRow → Tree → List ContentRow → Type 0 where
    value : {above d : ℕ} {r : ContentRow} {rs rest : List ContentRow} {t : Tree} → BeginsNoBlock r → ValueAt bytes above d r rs t rest → NodeAt bytes above d r rs t rest
    block : {d : ℕ} {r : ContentRow} {rs rest : List ContentRow} {t : Tree} (above : ℕ) → BlockAt bytes d false r rs t rest → NodeAt bytes above d r rs t rest

  -- a block sequence or a block mapping whose indent is the row's
  pub data BlockAt (bytes : List ℕ) : ℕ → Bool → ContentRow → List ContentRow → Tree → List ContentRow → Type 0 where
    block_sequence : {d : ℕ} {own : Bool} {r : ContentRow} {rs rest : List ContentRow} {is : Items} → ItemsAt bytes d own (indent r) r rs is rest → BlockAt bytes (suc d) own r rs (sequence is (span r.first.at (items_end r.first.at is))) rest
    block_mapping : {d : ℕ} {r : ContentRow} {rs rest : List ContentRow} {es : Entries} → EntriesAt bytes d (indent r) [] r rs es rest → BlockAt bytes (suc d) false r rs (mapping es (span r.first.at (entries_end r.first.at es))) rest

  -- one or more items at m, of which the first stands on the row r
  pub data ItemsAt (bytes : List ℕ) : ℕ → Bool → ℕ → ContentRow → List ContentRow → Items → List ContentRow → Type 0 where
    last_item : {d m : ℕ} {own : Bool} {r : ContentRow} {rs rest : List ContentRow} {t : Tree} → indent r ≡ m → is_item r ≡ true → ItemValue bytes d m r rs t rest → Ends own m rest → ItemsAt bytes d own m r rs (item t no_items) rest
    more_items : {d m : ℕ} {own : Bool} {r next : ContentRow} {rs later rest : List ContentRow} {t : Tree} {is : Items} → indent r ≡ m → is_item r ≡ true → ItemValue bytes d m r rs t (next ∷ later) → ItemsAt bytes d own m next later is rest
        → ItemsAt bytes d own m r rs (item t is) rest

  -- The value of an item at m. What stands behind the sign and spaces on its line may itself be an entry or an item, whose indent is its column. Else the next row
  -- decides: with an indent above m it begins the value, or the value is the empty text behind the sign.
  pub data ItemValue (bytes : List ℕ) : ℕ → ℕ → ContentRow → List ContentRow → Tree → List ContentRow → Type 0 where
    item_here : {d m : ℕ} {r left : ContentRow} {rs rest : List ContentRow} {t : Tree} → tab_in r.rest ≡ None → left_of r.begin r.rest ≡ Some left → NodeAt bytes (suc m) d left rs t rest → ItemValue bytes d m r rs t rest
    item_below : {d m : ℕ} {r next : ContentRow} {rs rest : List ContentRow} {t : Tree} → tab_in r.rest ≡ None → left_of r.begin r.rest ≡ None → m < indent next → NodeAt bytes (suc m) d next rs t rest → ItemValue bytes d m r (next ∷ rs) t rest
    item_empty : {m : ℕ} {r : ContentRow} {rs : List ContentRow} (d : ℕ) → tab_in r.rest ≡ None → left_of r.begin r.rest ≡ None → NoneBelow m rs → ItemValue bytes d m r rs (empty_at (suc r.first.at)) rs

  -- one or more entries at m, of which the first stands on the row r; their keys differ in text from each other and from those before
  pub data EntriesAt (bytes : List ℕ) : ℕ → ℕ → List (List ℕ) → ContentRow → List ContentRow → Entries → List ContentRow → Type 0 where
    last_entry : {d m : ℕ} {keys : List (List ℕ)} {r : ContentRow} {rs rest : List ContentRow} {v : Value} {t : Tree} → EntryAt bytes d m keys r rs v t rest → Ends false m rest → EntriesAt bytes d m keys r rs (entry v t no_entries) rest
    more_entries : {d m : ℕ} {keys : List (List ℕ)} {r next : ContentRow} {rs later rest : List ContentRow} {v : Value} {t : Tree} {es : Entries} → EntryAt bytes d m keys r rs v t (next ∷ later)
        → EntriesAt bytes d m (keys ++ v.text ∷ []) next later es rest → EntriesAt bytes d m keys r rs (entry v t es) rest

  -- an entry at m: a key that is new, and a value
  pub data EntryAt (bytes : List ℕ) : ℕ → ℕ → List (List ℕ) → ContentRow → List ContentRow → Value → Tree → List ContentRow → Type 0 where
    an_entry : {d m : ℕ} {keys : List (List ℕ)} {r : ContentRow} {rs rest : List ContentRow} {k : Key} {colon : Cell} {behind : List Cell} {v : Value} {t : Tree} → indent r ≡ m → BeginsEntry r k colon behind → IsKey r.first r.rest k v
        → (Contains keys v.text → ⊥) → EntryValue bytes d m r.begin colon behind rs t rest → EntryAt bytes d m keys r rs v t rest

  -- The value of an entry at m. On the key's own line it is a scalar or flow collection. Else the next row decides, and an item at m begins a sequence there.
  pub data EntryValue (bytes : List ℕ) : ℕ → ℕ → ℕ → Cell → List Cell → List ContentRow → Tree → List ContentRow → Type 0 where
    value_here : {d m begin : ℕ} {behind : List Cell} {left : ContentRow} {rs rest : List ContentRow} {t : Tree} (colon : Cell) → left_of begin behind ≡ Some left → BeginsNoBlock left → ValueAt bytes (suc m) d left rs t rest
        → EntryValue bytes d m begin colon behind rs t rest
    value_below : {d m begin : ℕ} {behind : List Cell} {next : ContentRow} {rs rest : List ContentRow} {t : Tree} (colon : Cell) → left_of begin behind ≡ None → m < indent next → NodeAt bytes (suc m) d next rs t rest
        → EntryValue bytes d m begin colon behind (next ∷ rs) t rest
    value_beside : {d m begin : ℕ} {behind : List Cell} {next : ContentRow} {rs rest : List ContentRow} {t : Tree} (colon : Cell) → left_of begin behind ≡ None → indent next ≡ m → is_item next ≡ true → BlockAt bytes d true next rs t rest
        → EntryValue bytes d m begin colon behind (next ∷ rs) t rest
    value_missing : {m begin : ℕ} {behind : List Cell} {rs : List ContentRow} (d : ℕ) (colon : Cell) → left_of begin behind ≡ None → NothingBelow m rs → EntryValue bytes d m begin colon behind rs (empty_at (suc colon.at)) rs
