-- What the rows behind a part of a block collection are: its next part, its end, or what breaks it. It defines nothing of trees: the steps of specs/reading/Trees, one at a time.
use Rattle.std.specs.Prelude.{◌≡◌, ℕ, suc, ◌-◌, ◌≤◌, ◌<◌, List, [], ◌∷◌, length, drop, get_or, Bool, true, false, Option, Some, None, Result, Ok, Err, nat_lt, if◌then◌else◌}
use Rattle.std.specs.Str.{IsCharBoundary}
use Rattle.lf_base.specs.declared.kind.Kind.TheVariants.{OpenQuote, DoubleKey}
use Rattle.lf_base.specs.declared.fault.Fault.{Fault}
use Rattle.lf_base.specs.Faults.{fault}
use Rattle.lf_scalar.specs.Cells.{Value, byte_fault, ◌>>=◌}
use Rattle.lf_yaml.specs.Rows.{ContentRow, indent, indent_fault, row_fault}
use Rattle.lf_yaml.specs.Heads.{is_item}
use Rattle.lf_yaml.specs.Tree.{Tree, Items, Entries}
use Rattle.lf_yaml.specs.reading.Trees.{EntryHead, begins_block, entry_of, key_of, has, opens_quote, Read, Reader, EntryValues, items, entries, entry_value, node_at}
use Rattle.lf_yaml.specs.views.Shown.{shown}
use Rattle.lf_yaml.specs.views.Headed.{headed, IsKeyIn}
use Rattle.lf_yaml.specs.views.Cursor.{rows_after, IsRowOf}
use Rattle.lf_yaml.specs.declared.row.ContentLine.{ContentLine}
use Rattle.lf_yaml.specs.declared.entries.EntryRow.{EntryRow}

-- a row that is deeper, at a smaller indent, or at m
abbrev pub turn : {A : Type 0} → ℕ → ContentRow → Result (Option A) Fault → Result (Option A) Fault
turn m r here = if nat_lt m (indent r) then Err (indent_fault r) else if nat_lt (indent r) m then Ok None else here

abbrev pub item_here : Bool → ContentRow → List ContentRow → Result (Option (ContentRow × List ContentRow)) Fault
item_here own r rs = if is_item r then Ok (Some (r, rs)) else if own then Ok None else Err (row_fault r)

-- the next item at m and the rows behind its own
unfoldable pub item_turn : Bool → ℕ → List ContentRow → Result (Option (ContentRow × List ContentRow)) Fault
item_turn own m [] = Ok None
item_turn own m (r ∷ rs) = turn m r (item_here own r rs)

-- what is told of a row at m that begins no entry
abbrev pub no_entry_fault : ContentRow → Fault
no_entry_fault r = if opens_quote r.first r.rest then byte_fault OpenQuote r.first.at else row_fault r

abbrev pub head_here : ContentRow → List ContentRow → Option EntryHead → Result (Option (ContentRow × EntryHead × List ContentRow)) Fault
head_here r rs None = Err (no_entry_fault r)
head_here r rs (Some h) = Ok (Some (r, h, rs))

-- the next entry at m, its key, and the rows behind its own
unfoldable pub entry_turn : ℕ → List ContentRow → Result (Option (ContentRow × EntryHead × List ContentRow)) Fault
entry_turn m [] = Ok None
entry_turn m (r ∷ rs) = turn m r (head_here r rs (entry_of r))

-- a key that is new
abbrev pub if_new : List (List ℕ) → Value → Result Value Fault
if_new keys v = if has keys v.text then Err (fault DoubleKey v.span) else Ok v

unfoldable pub new_key : List (List ℕ) → ContentRow → EntryHead → Result Value Fault
new_key keys r h = key_of r.first r.rest h.0 >>= λ v. if_new keys v

-- an entry: its key, which is new, and its value
abbrev pub with_key : Value → Read Tree → Read (Value × Tree)
with_key v read = read >>= λ x. Ok ((v, x.0), x.1)

unfoldable pub one_entry : EntryValues → List (List ℕ) → ContentRow → EntryHead → List ContentRow → Read (Value × Tree)
one_entry value keys r h rs = new_key keys r h >>= λ v. with_key v (value r.begin h.1 h.2 rs)

-- ---- the readers inside a node

abbrev pub inner : List ℕ → ℕ → Reader
inner bytes d = λ a x xs. node_at bytes d false a x xs

abbrev pub owned : List ℕ → ℕ → Bool → Reader
owned bytes d = λ o a x xs. node_at bytes d o a x xs

abbrev pub values : List ℕ → ℕ → ℕ → EntryValues
values bytes d m = λ begin colon behind xs. entry_value bytes d (owned bytes d) m begin colon behind xs

-- the items from a row on, and the entries, with as many turns as are enough
abbrev pub run_items : List ℕ → ℕ → Bool → ℕ → ContentRow → List ContentRow → Read Items
run_items bytes d own m r rs = items (inner bytes d) (suc (length (r ∷ rs))) own m (r ∷ rs)

abbrev pub run_entries : List ℕ → ℕ → ℕ → ContentRow → List ContentRow → Read Entries
run_entries bytes d m r rs = entries (values bytes d m) (suc (length (r ∷ rs))) m [] (r ∷ rs)

-- what stands behind a key's `:` is the rest of its row
pub record IsBehind (r : ContentLine) (colon : ℕ) (behind : List ℕ) : Type 0 where
  pub order : r.at ≤ colon
  pub within : colon - r.at < length r.text.now
  pub sign : get_or r.text.now (colon - r.at) 0 ≡ 58
  pub rest : behind ≡ drop (suc (colon - r.at)) r.text.now

-- what is known of an entry's row
pub record IsEntryRow (bytes : List ℕ) (e : EntryRow) : Type 0 where
  pub row : IsRowOf bytes e.row
  pub entry : entry_of (shown e.row) ≡ Some (headed e.row.at e.row.text.now e.head)
  pub key : IsKeyIn e.row.at e.row.text.now e.head.key
  pub behind : IsBehind e.row e.head.colon e.head.behind.now
  pub start : IsCharBoundary bytes e.behind

-- the row on which an entry's value begins below the entry: deeper than m, or an item at m
abbrev pub IsBelow : Bool → ℕ → ContentRow → Type 0
IsBelow false m r = m < indent r
IsBelow true m r = (indent r ≡ m) × (is_item r ≡ true)

-- an entry of the code, with the rows behind its own
abbrev pub entry_shown : List ℕ → EntryRow → ContentRow × EntryHead × List ContentRow
entry_shown bytes e = (shown e.row, headed e.row.at e.row.text.now e.head, rows_after bytes e.behind)

-- what is told of a row behind the root
abbrev pub behind_fault : ContentRow → ContentRow → Fault
behind_fault root next = if begins_block root then indent_fault next else row_fault next
