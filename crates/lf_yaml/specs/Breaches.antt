-- What breaks a document: up to there it stands for a tree that is cut off, and there a row, a key or a value breaks. So nothing behind the first breach is one.
use Rattle.std.specs.Prelude.{◌≡◌, ℕ, zero, suc, ◌<◌, List, [], ◌∷◌, ◌++◌, length, Bool, true, false, Some, None, Contains}
use Rattle.lf_base.specs.declared.kind.Kind.TheVariants.{OpenQuote, DoubleKey, NotANode, TooDeep}
use Rattle.lf_base.specs.declared.fault.Fault.{Fault}
use Rattle.lf_base.specs.Faults.{fault}
use Rattle.lf_scalar.specs.Cells.{Cell, Value, byte_fault, character_fault}
use Rattle.lf_scalar.specs.Quoted.{WrongBehind}
use Rattle.lf_scalar.specs.Scalars.{BreaksStyle, source_at}
use Rattle.lf_yaml.specs.Rows.{ContentRow, indent, left_of, tab_in, indent_fault, row_fault}
use Rattle.lf_yaml.specs.Heads.{is_item, Key, IsKey, KeyBreaks, BeginsEntry, NoEntry, BeginsBlock, BeginsNoBlock, OpensQuote, style_of, begins_scalar}
use Rattle.lf_yaml.specs.Flow.{is_bracket, line_on, SequenceIn, SequenceBreaks, MappingIn, MappingBreaks}
use Rattle.lf_yaml.specs.Tree.{Tree, Items, Entries}
use Rattle.lf_yaml.specs.Nodes.{ItemValue, EntryAt}

abbrev pub ScalarBreaksOn : List ℕ → ℕ → ContentRow → Fault → Type 0
ScalarBreaksOn bytes above r f = BreaksStyle (style_of r.first) above (length bytes) (source_at bytes r.first.at) f

-- What breaks a row on which a scalar or flow collection is to begin: it begins none, the scalar or the collection is broken, the collection is one too deep, or something stands behind its closing bracket.
pub data ValueBreaks (bytes : List ℕ) (above : ℕ) : ℕ → ContentRow → List ContentRow → Fault → Type 0 where
  scalar : {d : ℕ} {r : ContentRow} {f : Fault} (rs : List ContentRow) → begins_scalar r ≡ true → ScalarBreaksOn bytes above r f → ValueBreaks bytes above d r rs f
  no_value : {r : ContentRow} (d : ℕ) (rs : List ContentRow) → begins_scalar r ≡ false → is_bracket r.first ≡ false → ValueBreaks bytes above d r rs (row_fault r)
  deep : {r : ContentRow} (rs : List ContentRow) → is_bracket r.first ≡ true → ValueBreaks bytes above zero r rs (character_fault TooDeep r.first)
  flow_sequence : {r : ContentRow} {f : Fault} (rs : List ContentRow) (d : ℕ) → r.first.byte ≡ 91 → SequenceBreaks bytes (suc r.first.at) f → ValueBreaks bytes above (suc d) r rs f
  behind_sequence : {r : ContentRow} {is : Items} {closing wrong : Cell} (rs : List ContentRow) (d : ℕ) → r.first.byte ≡ 91 → SequenceIn bytes (suc r.first.at) is closing → WrongBehind (line_on bytes (suc closing.at)).text wrong
      → ValueBreaks bytes above (suc d) r rs (character_fault NotANode wrong)
  flow_mapping : {r : ContentRow} {f : Fault} (rs : List ContentRow) (d : ℕ) → r.first.byte ≡ 123 → MappingBreaks bytes [] (suc r.first.at) f → ValueBreaks bytes above (suc d) r rs f
  behind_mapping : {r : ContentRow} {es : Entries} {closing wrong : Cell} (rs : List ContentRow) (d : ℕ) → r.first.byte ≡ 123 → MappingIn bytes [] (suc r.first.at) es closing → WrongBehind (line_on bytes (suc closing.at)).text wrong
      → ValueBreaks bytes above (suc d) r rs (character_fault NotANode wrong)

mutual
  pub data NodeBreaks (bytes : List ℕ) : ℕ → ℕ → ContentRow → List ContentRow → Fault → Type 0 where
    value : {above d : ℕ} {r : ContentRow} {rs : List ContentRow} {f : Fault} → BeginsNoBlock r → ValueBreaks bytes above d r rs f → NodeBreaks bytes above d r rs f
    block : {d : ℕ} {r : ContentRow} {rs : List ContentRow} {f : Fault} (above : ℕ) → BlockBreaks bytes d false r rs f → NodeBreaks bytes above d r rs f

  pub data BlockBreaks (bytes : List ℕ) : ℕ → Bool → ContentRow → List ContentRow → Fault → Type 0 where
    too_deep : {r : ContentRow} (own : Bool) (rs : List ContentRow) → BeginsBlock r → BlockBreaks bytes zero own r rs (character_fault TooDeep r.first)
    block_sequence : {d : ℕ} {own : Bool} {r : ContentRow} {rs : List ContentRow} {f : Fault} → is_item r ≡ true → ItemsBreak bytes d own (indent r) r rs f → BlockBreaks bytes (suc d) own r rs f
    block_mapping : {d : ℕ} {r : ContentRow} {rs : List ContentRow} {k : Key} {colon : Cell} {behind : List Cell} {f : Fault} → BeginsEntry r k colon behind → EntriesBreak bytes d (indent r) [] r rs f → BlockBreaks bytes (suc d) false r rs f

  -- A row behind some items is deeper, or one at m is no item where one has to stand, or an item's value breaks, or what stands behind the item.
  pub data ItemsBreak (bytes : List ℕ) : ℕ → Bool → ℕ → ContentRow → List ContentRow → Fault → Type 0 where
    deeper_item : {m : ℕ} {r : ContentRow} (d : ℕ) (own : Bool) (rs : List ContentRow) → m < indent r → ItemsBreak bytes d own m r rs (indent_fault r)
    no_item : {m : ℕ} {r : ContentRow} (d : ℕ) (rs : List ContentRow) → indent r ≡ m → is_item r ≡ false → ItemsBreak bytes d false m r rs (row_fault r)
    item_value : {d m : ℕ} {r : ContentRow} {rs : List ContentRow} {f : Fault} (own : Bool) → indent r ≡ m → is_item r ≡ true → ItemValueBreaks bytes d m r rs f → ItemsBreak bytes d own m r rs f
    later_item : {d m : ℕ} {own : Bool} {r next : ContentRow} {rs later : List ContentRow} {t : Tree} {f : Fault} → indent r ≡ m → is_item r ≡ true → ItemValue bytes d m r rs t (next ∷ later) → ItemsBreak bytes d own m next later f
        → ItemsBreak bytes d own m r rs f

  -- a tab behind the item's sign, or what breaks the value
  pub data ItemValueBreaks (bytes : List ℕ) : ℕ → ℕ → ContentRow → List ContentRow → Fault → Type 0 where
    item_tab : {m : ℕ} {r : ContentRow} {tab : Cell} (d : ℕ) (rs : List ContentRow) → tab_in r.rest ≡ Some tab → ItemValueBreaks bytes d m r rs (byte_fault NotANode tab.at)
    item_here : {d m : ℕ} {r left : ContentRow} {rs : List ContentRow} {f : Fault} → tab_in r.rest ≡ None → left_of r.begin r.rest ≡ Some left → NodeBreaks bytes (suc m) d left rs f → ItemValueBreaks bytes d m r rs f
    item_below : {d m : ℕ} {r next : ContentRow} {rs : List ContentRow} {f : Fault} → tab_in r.rest ≡ None → left_of r.begin r.rest ≡ None → m < indent next → NodeBreaks bytes (suc m) d next rs f → ItemValueBreaks bytes d m r (next ∷ rs) f

  -- A row behind some entries is deeper, or one at m is no entry, its key is broken or stands a second time, its value breaks, or what stands behind the entry.
  pub data EntriesBreak (bytes : List ℕ) : ℕ → ℕ → List (List ℕ) → ContentRow → List ContentRow → Fault → Type 0 where
    deeper_entry : {m : ℕ} {r : ContentRow} (d : ℕ) (keys : List (List ℕ)) (rs : List ContentRow) → m < indent r → EntriesBreak bytes d m keys r rs (indent_fault r)
    open_key : {m : ℕ} {r : ContentRow} (d : ℕ) (keys : List (List ℕ)) (rs : List ContentRow) → indent r ≡ m → OpensQuote r.first r.rest → EntriesBreak bytes d m keys r rs (byte_fault OpenQuote r.first.at)
    no_entry : {m : ℕ} {r : ContentRow} (d : ℕ) (keys : List (List ℕ)) (rs : List ContentRow) → indent r ≡ m → NoEntry r → (OpensQuote r.first r.rest → ⊥) → EntriesBreak bytes d m keys r rs (row_fault r)
    broken_key : {m : ℕ} {r : ContentRow} {k : Key} {colon : Cell} {behind : List Cell} {f : Fault} (d : ℕ) (keys : List (List ℕ)) (rs : List ContentRow) → indent r ≡ m → BeginsEntry r k colon behind → KeyBreaks r.first r.rest k f
        → EntriesBreak bytes d m keys r rs f
    second_key : {m : ℕ} {keys : List (List ℕ)} {r : ContentRow} {k : Key} {colon : Cell} {behind : List Cell} (v : Value) (d : ℕ) (rs : List ContentRow) → indent r ≡ m → BeginsEntry r k colon behind → IsKey r.first r.rest k v
        → Contains keys v.text → EntriesBreak bytes d m keys r rs (fault DoubleKey v.span)
    entry_value : {d m : ℕ} {keys : List (List ℕ)} {r : ContentRow} {rs : List ContentRow} {k : Key} {colon : Cell} {behind : List Cell} {f : Fault} (v : Value) → indent r ≡ m → BeginsEntry r k colon behind → IsKey r.first r.rest k v
        → (Contains keys v.text → ⊥) → EntryValueBreaks bytes d m r.begin behind rs f → EntriesBreak bytes d m keys r rs f
    later_entry : {d m : ℕ} {keys : List (List ℕ)} {r next : ContentRow} {rs later : List ContentRow} {v : Value} {t : Tree} {f : Fault} → EntryAt bytes d m keys r rs v t (next ∷ later) → EntriesBreak bytes d m (keys ++ v.text ∷ []) next later f
        → EntriesBreak bytes d m keys r rs f

  -- an item or an entry on the key's own line, or what breaks the value there or on the rows below
  pub data EntryValueBreaks (bytes : List ℕ) : ℕ → ℕ → ℕ → List Cell → List ContentRow → Fault → Type 0 where
    block_here : {m begin : ℕ} {behind : List Cell} {left : ContentRow} (d : ℕ) (rs : List ContentRow) → left_of begin behind ≡ Some left → BeginsBlock left → EntryValueBreaks bytes d m begin behind rs (character_fault NotANode left.first)
    value_here : {d m begin : ℕ} {behind : List Cell} {left : ContentRow} {rs : List ContentRow} {f : Fault} → left_of begin behind ≡ Some left → BeginsNoBlock left → ValueBreaks bytes (suc m) d left rs f → EntryValueBreaks bytes d m begin behind rs f
    value_below : {d m begin : ℕ} {behind : List Cell} {next : ContentRow} {rs : List ContentRow} {f : Fault} → left_of begin behind ≡ None → m < indent next → NodeBreaks bytes (suc m) d next rs f → EntryValueBreaks bytes d m begin behind (next ∷ rs) f
    value_beside : {d m begin : ℕ} {behind : List Cell} {next : ContentRow} {rs : List ContentRow} {f : Fault} → left_of begin behind ≡ None → indent next ≡ m → is_item next ≡ true → BlockBreaks bytes d true next rs f
        → EntryValueBreaks bytes d m begin behind (next ∷ rs) f
