-- A way of reading a document row by row, which defines nothing: proofs/Laws shows that it is the definition.
use Rattle.std.specs.Prelude.{ℕ, zero, suc, ◌+◌, List, [], ◌∷◌, ◌++◌, length, Bool, true, false, Option, Some, None, Result, Ok, Err, nat_lt, bytes_eq, is_some, is_none, ◌==◌, ◌&&◌, ◌||◌, if◌then◌else◌}
use Rattle.std.specs.List.{list_any}
use Rattle.lf_base.specs.declared.kind.Kind.TheVariants.{OpenQuote, LeftOut, DoubleKey, NotANode, TooDeep}
use Rattle.lf_scalar.specs.declared.quotes.Quotes.{Quotes}
use Rattle.lf_base.specs.declared.fault.Fault.{Fault}
use Rattle.lf_base.specs.declared.place.Span.{Span}
use Rattle.lf_base.specs.Faults.{span, fault}
use Rattle.lf_scalar.specs.Cells.{Cell, Value, made, end_of, byte_fault, character_fault, ◌>>=◌}
use Rattle.lf_scalar.specs.Lines.{Line, is_blank, after_blanks}
use Rattle.lf_scalar.specs.Folding.{fold, trimmed}
use Rattle.lf_scalar.specs.Plain.{before_blank, begins_plain, value_of}
use Rattle.lf_scalar.specs.Scalars.{source_at}
use Rattle.lf_scalar.specs.Splits.{Split}
use Rattle.lf_scalar.specs.reading.Quoted.{closing_of, wrong_behind, quoted_of}
use Rattle.lf_scalar.specs.reading.Plain.{unless_key}
use Rattle.lf_scalar.specs.reading.Styles as scalar
use Rattle.lf_yaml.specs.Tree.{Tree, leaf, sequence, mapping, Items, no_items, item, Entries, no_entries, entry}
use Rattle.lf_yaml.specs.Spans.{items_end, entries_end, empty_at}
use Rattle.lf_yaml.specs.Keys.{is_too_far, before_offset, is_key_left_out}
pub use Rattle.lf_yaml.specs.Keys.{quotes_of}
use Rattle.lf_yaml.specs.Rows.{ContentRow, text_of, indent, content_row, rows_from, left_of, tab_in, is_left_out, indent_fault, row_fault}
use Rattle.lf_yaml.specs.Heads.{is_item, key_in, never, Key, Bare, Between, style_of, begins_scalar}
use Rattle.lf_yaml.specs.Flow.{line_on, lines_below, Next, at_part, broken, next_on, is_flow_sign, begins_flow, line_text, line_colon, is_bare, is_spaces, goes_on, left_on, part_fault, sign_fault}

-- ---- keys

-- a key, its `:` and what stands behind it
abbrev pub EntryHead : Type 0
EntryHead = Key × Cell × List Cell

abbrev pub sign_if : List Cell → Option (Cell × List Cell)
sign_if [] = None
sign_if (c ∷ cs) = if c.byte == 58 then Some (c, cs) else None

abbrev pub sign_behind : List Cell → Option (Cell × List Cell)
sign_behind cs = sign_if (after_blanks cs)

abbrev pub quoted_sign : Quotes → Option (Cell × List Cell) → Option EntryHead
quoted_sign kind None = None
quoted_sign kind (Some x) = if before_blank x.1 then Some (Between kind, x.0, x.1) else None

abbrev pub quoted_head : Quotes → Option Split → Option EntryHead
quoted_head kind None = None
quoted_head kind (Some x) = quoted_sign kind (sign_behind x.1.1)

abbrev pub bare_head : Option Split → Option EntryHead
bare_head None = None
bare_head (Some x) = Some (Bare (trimmed is_blank x.0), x.1.0, x.1.1)

abbrev pub entry_by : ContentRow → Option Quotes → Option EntryHead
entry_by r None = if begins_plain (text_of r) then bare_head (key_in never before_blank (text_of r)) else None
entry_by r (Some kind) = quoted_head kind (closing_of kind 0 r.rest)

-- the entry that a row begins
unfoldable pub entry_of : ContentRow → Option EntryHead
entry_of r = if is_left_out r then None else entry_by r (quotes_of r.first)

-- a scalar between quotes that closes on its line
abbrev pub between_of : Quotes → Cell → Option Split → Result Value Fault
between_of kind c None = Err (byte_fault OpenQuote c.at)
between_of kind c (Some x) = quoted_of kind (x.1.0.at + 1) c (x.0 ++ x.1.0 ∷ [])

unfoldable pub key_of : Cell → List Cell → Key → Result Value Fault
key_of c cs (Bare text) = Ok (made text (end_of c.at text) (span c.at (end_of c.at text)))
key_of c cs (Between kind) = between_of kind c (closing_of kind 0 cs)

abbrev pub opens_by : List Cell → Option Quotes → Bool
opens_by cs None = false
opens_by cs (Some kind) = is_none (closing_of kind 0 cs)

-- a quote that nothing on its line closes
unfoldable pub opens_quote : Cell → List Cell → Bool
opens_quote c cs = opens_by cs (quotes_of c)

-- the texts of some keys
abbrev pub Keys : Type 0
Keys = List (List ℕ)

-- a text stands among some
abbrev pub has : Keys → List ℕ → Bool
has texts text = list_any (λ t. bytes_eq t text) texts

-- ---- flow collections

-- the text that a line of a plain scalar gives
abbrev pub plain_line : Line → Result (List Cell) Fault
plain_line l = unless_key (line_text l) (line_colon l)

-- the text of such a scalar behind a line break with so many lines of spaces so far, and where the collection is read on: at this line break where no line goes on
abbrev pub Folded : Type 0
Folded = Result (List Cell × ℕ) Fault

abbrev pub before_text : List Cell → Folded → Folded
before_text cs read = read >>= λ x. Ok (cs ++ x.0, x.1)

unfoldable pub plain_behind : ℕ → ℕ → List Line → Folded
plain_behind break k [] = Ok ([], break)
plain_behind break k (l ∷ ls) =
    if is_spaces l then plain_behind break (suc k) ls
    else if goes_on (content_row l) then
    before_text (fold break k) (plain_line l >>= λ text. before_text text (if is_bare l then plain_behind l.break 0 ls else Ok ([], left_on l)))
    else Ok ([], break)

abbrev pub plain_from : Line → List Line → Folded
plain_from l ls = plain_line l >>= λ text. before_text text (if is_bare l then plain_behind l.break 0 ls else Ok ([], left_on l))

-- a scalar of a flow collection, and where the collection is read on
abbrev pub FlowPart : Type 0
FlowPart = Value × ℕ

abbrev pub plain_part : Cell → Folded → Result FlowPart Fault
plain_part c read = read >>= λ x. Ok (value_of c x.0, x.1)

-- behind a quote that closes
abbrev pub after_closing : Option Split → ℕ
after_closing None = 0
after_closing (Some x) = suc x.1.0.at

abbrev pub with_after : ℕ → Result Value Fault → Result FlowPart Fault
with_after after read = read >>= λ v. Ok (v, after)

abbrev pub quoted_part : Quotes → Cell → Option Split → Result FlowPart Fault
quoted_part kind c closing = with_after (after_closing closing) (between_of kind c closing)

abbrev pub part_by : List ℕ → Cell → List Cell → Option Quotes → Result FlowPart Fault
part_by bytes c cs None = if begins_flow c cs then plain_part c (plain_from (line_on bytes c.at) (lines_below bytes c.at)) else Err (part_fault c cs)
part_by bytes c cs (Some kind) = quoted_part kind c (closing_of kind 0 (source_at bytes (suc c.at)))

unfoldable pub flow_scalar : List ℕ → Cell → List Cell → Result FlowPart Fault
flow_scalar bytes c cs = part_by bytes c cs (quotes_of c)

-- what a flow collection holds, and its closing bracket
abbrev pub FlowRead : Type 0 → Type 0
FlowRead A = Result (A × Cell) Fault

abbrev pub with_item : {B : Type 0} → Tree → Result (Items × B) Fault → Result (Items × B) Fault
with_item t read = read >>= λ x. Ok (item t x.0, x.1)

abbrev pub sequence_sign : (ℕ → FlowRead Items) → Value → Next → FlowRead Items
sequence_sign later v (broken f) = Err f
sequence_sign later v (at_part c cs) =
    if c.byte == 44 then with_item (leaf v) (later (suc c.at))
    else if c.byte == 93 then Ok (item (leaf v) no_items, c)
    else Err (sign_fault c)

abbrev pub sequence_behind : List ℕ → (ℕ → FlowRead Items) → Result FlowPart Fault → FlowRead Items
sequence_behind bytes later read = read >>= λ x. sequence_sign later x.0 (next_on bytes x.1)

abbrev pub sequence_part : List ℕ → (ℕ → FlowRead Items) → Next → FlowRead Items
sequence_part bytes later (broken f) = Err f
sequence_part bytes later (at_part c cs) = if c.byte == 93 then Ok (no_items, c) else sequence_behind bytes later (flow_scalar bytes c cs)

-- The number bounds the turns. The count of the bytes from the offset on and one is always enough.
unfoldable pub sequence_in : List ℕ → ℕ → ℕ → FlowRead Items
sequence_in bytes zero at = Err (byte_fault NotANode 0)
sequence_in bytes (suc n) at = sequence_part bytes (λ next. sequence_in bytes n next) (next_on bytes at)

-- a key and its `:`
abbrev pub Signed : Type 0
Signed = Value × Cell

abbrev pub no_sign : Next → Result Signed Fault
no_sign (broken f) = Err f
no_sign (at_part c cs) = Err (sign_fault c)

abbrev pub signed : List ℕ → Value → ℕ → Option (Cell × List Cell) → Result Signed Fault
signed bytes v after None = no_sign (next_on bytes after)
signed bytes v after (Some x) = Ok (v, x.0)

abbrev pub signed_behind : List ℕ → ℕ → List Cell → Result Value Fault → Result Signed Fault
signed_behind bytes after behind read = read >>= λ v. signed bytes v after (sign_behind behind)

-- what stands behind a quote that closes
abbrev pub behind_closing : Option Split → List Cell
behind_closing None = []
behind_closing (Some x) = x.1.1

abbrev pub bare_key : Cell → List Cell → Value
bare_key c text = made text (end_of c.at text) (span c.at (end_of c.at text))

abbrev pub plain_key : List ℕ → Cell → List Cell → Option Split → Result Signed Fault
plain_key bytes c cs None = no_sign (next_on bytes (left_on (line_on bytes c.at)))
plain_key bytes c cs (Some x) = if is_key_left_out x.0 then Err (character_fault LeftOut c) else Ok (bare_key c (trimmed is_blank x.0), x.1.0)

-- a `:` stands too far behind the start of a text
abbrev pub far_sign : List Cell → Option (Cell × List Cell) → Bool
far_sign text None = false
far_sign text (Some x) = is_too_far (before_offset x.0.at text)

abbrev pub quoted_key : List ℕ → Quotes → Cell → List Cell → Option Split → Result Signed Fault
quoted_key bytes kind c cs closing =
    if far_sign (c ∷ cs) (sign_behind (behind_closing closing)) then Err (character_fault LeftOut c)
    else signed_behind bytes (after_closing closing) (behind_closing closing) (between_of kind c closing)

abbrev pub flow_key_by : List ℕ → Cell → List Cell → Option Quotes → Result Signed Fault
flow_key_by bytes c cs None =
    if begins_flow c cs then plain_key bytes c cs (key_in is_flow_sign before_blank (c ∷ cs))
    else Err (part_fault c cs)
flow_key_by bytes c cs (Some kind) = quoted_key bytes kind c cs (closing_of kind 0 cs)

unfoldable pub flow_key : List ℕ → Cell → List Cell → Result Signed Fault
flow_key bytes c cs = flow_key_by bytes c cs (quotes_of c)

-- a value, and where the mapping is read on
abbrev pub Valued : Type 0
Valued = Tree × ℕ

abbrev pub scalar_part : Result FlowPart Fault → Result Valued Fault
scalar_part read = read >>= λ x. Ok (leaf x.0, x.1)

abbrev pub value_part : List ℕ → Cell → Next → Result Valued Fault
value_part bytes colon (broken f) = Err f
value_part bytes colon (at_part c cs) = if (c.byte == 44) || (c.byte == 125) then Ok (empty_at (suc colon.at), suc colon.at) else scalar_part (flow_scalar bytes c cs)

unfoldable pub flow_value : List ℕ → Cell → Result Valued Fault
flow_value bytes colon = value_part bytes colon (next_on bytes (suc colon.at))

abbrev pub with_entry : {B : Type 0} → Value → Tree → Result (Entries × B) Fault → Result (Entries × B) Fault
with_entry v t read = read >>= λ x. Ok (entry v t x.0, x.1)

abbrev pub mapping_sign : (ℕ → FlowRead Entries) → Value → Tree → Next → FlowRead Entries
mapping_sign later v t (broken f) = Err f
mapping_sign later v t (at_part c cs) =
    if c.byte == 44 then with_entry v t (later (suc c.at))
    else if c.byte == 125 then Ok (entry v t no_entries, c)
    else Err (sign_fault c)

abbrev pub Later : Type 0
Later = List (List ℕ) → ℕ → FlowRead Entries

abbrev pub value_behind : List ℕ → (ℕ → FlowRead Entries) → Value → Result Valued Fault → FlowRead Entries
value_behind bytes later v read = read >>= λ x. mapping_sign later v x.0 (next_on bytes x.1)

abbrev pub new_entry : List ℕ → Later → List (List ℕ) → Signed → FlowRead Entries
new_entry bytes later keys k =
    if has keys k.0.text then Err (fault DoubleKey k.0.span)
    else value_behind bytes (λ next. later (keys ++ k.0.text ∷ []) next) k.0 (flow_value bytes k.1)

abbrev pub key_behind : List ℕ → Later → List (List ℕ) → Result Signed Fault → FlowRead Entries
key_behind bytes later keys read = read >>= λ k. new_entry bytes later keys k

abbrev pub mapping_part : List ℕ → Later → List (List ℕ) → Next → FlowRead Entries
mapping_part bytes later keys (broken f) = Err f
mapping_part bytes later keys (at_part c cs) = if c.byte == 125 then Ok (no_entries, c) else key_behind bytes later keys (flow_key bytes c cs)

unfoldable pub mapping_in : List ℕ → ℕ → List (List ℕ) → ℕ → FlowRead Entries
mapping_in bytes zero keys at = Err (byte_fault NotANode 0)
mapping_in bytes (suc n) keys at = mapping_part bytes (λ ks next. mapping_in bytes n ks next) keys (next_on bytes at)

-- ---- block collections

abbrev pub Read : Type 0 → Type 0
Read A = Result (A × List ContentRow) Fault

-- what is read of a collection: its tree but for the span, and its closing bracket
abbrev pub FlowTree : Type 0
FlowTree = FlowRead (Span → Tree)

abbrev pub as_tree : {A : Type 0} → (A → Span → Tree) → FlowRead A → FlowTree
as_tree node read = read >>= λ x. Ok (node x.0, x.1)

-- Nothing but blanks and a comment stands behind a closing bracket.
abbrev pub alone : ContentRow → List ContentRow → (Span → Tree) × Cell → Option Cell → Read Tree
alone r rs x None = Ok (x.0 (span r.first.at (suc x.1.at)), rows_from (suc x.1.at) rs)
alone r rs x (Some wrong) = Err (character_fault NotANode wrong)

abbrev pub closed : List ℕ → ContentRow → List ContentRow → FlowTree → Read Tree
closed bytes r rs read = read >>= λ x. alone r rs x (wrong_behind false (line_on bytes (suc x.1.at)).text)

abbrev pub flow_list : List ℕ → ℕ → ContentRow → List ContentRow → Read Tree
flow_list bytes zero r rs = Err (character_fault TooDeep r.first)
flow_list bytes (suc d) r rs = closed bytes r rs (as_tree sequence (sequence_in bytes (suc (length bytes)) (suc r.first.at)))

abbrev pub flow_map : List ℕ → ℕ → ContentRow → List ContentRow → Read Tree
flow_map bytes zero r rs = Err (character_fault TooDeep r.first)
flow_map bytes (suc d) r rs = closed bytes r rs (as_tree mapping (mapping_in bytes (suc (length bytes)) [] (suc r.first.at)))

abbrev pub scalar_on : List ℕ → ℕ → ContentRow → Result Value Fault
scalar_on bytes above r = scalar.reading (style_of r.first) above (length bytes) (source_at bytes r.first.at)

abbrev pub scalar_value : List ContentRow → Result Value Fault → Read Tree
scalar_value rs read = read >>= λ v. Ok (leaf v, rows_from v.span.end rs)

-- a scalar or a flow collection
unfoldable pub value_on : List ℕ → ℕ → ℕ → ContentRow → List ContentRow → Read Tree
value_on bytes above d r rs =
    if begins_scalar r then scalar_value rs (scalar_on bytes above r)
    else if r.first.byte == 91 then flow_list bytes d r rs
    else if r.first.byte == 123 then flow_map bytes d r rs
    else Err (row_fault r)

-- by the number of spaces that an indent above the parent's has at least
abbrev pub Reader : Type 0
Reader = ℕ → ContentRow → List ContentRow → Read Tree

-- the value of an item or an entry on a row below, if there is one
abbrev pub item_next : Reader → ℕ → ℕ → List ContentRow → Read Tree
item_next node m at [] = Ok (empty_at at, [])
item_next node m at (r ∷ rs) = if nat_lt m (indent r) then node (suc m) r rs else Ok (empty_at at, r ∷ rs)

abbrev pub item_at : Reader → ℕ → ℕ → List ContentRow → Option ContentRow → Read Tree
item_at node m at rs (Some left) = node (suc m) left rs
item_at node m at rs None = item_next node m at rs

abbrev pub unless_tab : Option Cell → Read Tree → Read Tree
unless_tab None read = read
unless_tab (Some tab) read = Err (byte_fault NotANode tab.at)

abbrev pub item_value : Reader → ℕ → ContentRow → List ContentRow → Read Tree
item_value node m r rs = unless_tab (tab_in r.rest) (item_at node m (suc r.first.at) rs (left_of r.begin r.rest))

abbrev pub items_behind : (List ContentRow → Read Items) → Read Tree → Read Items
items_behind later read = read >>= λ x. with_item x.0 (later x.1)

abbrev pub items_on : Reader → (List ContentRow → Read Items) → Bool → ℕ → ContentRow → List ContentRow → Read Items
items_on node later own m r rs =
    if is_item r then items_behind later (item_value node m r rs)
    else if own then Ok (no_items, r ∷ rs)
    else Err (row_fault r)

-- a row behind some part of a collection at m: deeper, at a smaller indent, or at m
abbrev pub at_indent : {A : Type 0} → ℕ → ContentRow → List ContentRow → A → Read A → Read A
at_indent m r rs none read = if nat_lt m (indent r) then Err (indent_fault r) else if nat_lt (indent r) m then Ok (none, r ∷ rs) else read

-- The number bounds the turns. The count of the rows and one is always enough.
unfoldable pub items : Reader → ℕ → Bool → ℕ → List ContentRow → Read Items
items node zero own m rs = Err (byte_fault NotANode 0)
items node (suc n) own m [] = Ok (no_items, [])
items node (suc n) own m (r ∷ rs) = at_indent m r rs no_items (items_on node (λ rows. items node n own m rows) own m r rs)

abbrev pub begins_block : ContentRow → Bool
begins_block r = is_item r || is_some (entry_of r)

abbrev pub entry_next : (Bool → Reader) → ℕ → ℕ → List ContentRow → Read Tree
entry_next node m at [] = Ok (empty_at at, [])
entry_next node m at (r ∷ rs) =
    if nat_lt m (indent r) then node false (suc m) r rs
    else if (indent r == m) && is_item r then node true (suc m) r rs
    else Ok (empty_at at, r ∷ rs)

abbrev pub entry_at : List ℕ → ℕ → (Bool → Reader) → ℕ → ℕ → List ContentRow → Option ContentRow → Read Tree
entry_at bytes d node m at rs (Some left) = if begins_block left then Err (character_fault NotANode left.first) else value_on bytes (suc m) d left rs
entry_at bytes d node m at rs None = entry_next node m at rs

abbrev pub entry_value : List ℕ → ℕ → (Bool → Reader) → ℕ → ℕ → Cell → List Cell → List ContentRow → Read Tree
entry_value bytes d node m begin colon behind rs = entry_at bytes d node m (suc colon.at) rs (left_of begin behind)

abbrev pub EntryValues : Type 0
EntryValues = ℕ → Cell → List Cell → List ContentRow → Read Tree

abbrev pub entries_behind : Value → (List ContentRow → Read Entries) → Read Tree → Read Entries
entries_behind v later read = read >>= λ x. with_entry v x.0 (later x.1)

abbrev pub keyed : EntryValues → (List (List ℕ) → List ContentRow → Read Entries) → List (List ℕ) → ContentRow → List ContentRow → Cell → List Cell → Value → Read Entries
keyed value later keys r rs colon behind v =
    if has keys v.text then Err (fault DoubleKey v.span)
    else entries_behind v (λ rows. later (keys ++ v.text ∷ []) rows) (value r.begin colon behind rs)

abbrev pub key_read : EntryValues → (List (List ℕ) → List ContentRow → Read Entries) → List (List ℕ) → ContentRow → List ContentRow → Cell → List Cell → Result Value Fault → Read Entries
key_read value later keys r rs colon behind read = read >>= λ v. keyed value later keys r rs colon behind v

abbrev pub entries_on : EntryValues → (List (List ℕ) → List ContentRow → Read Entries) → List (List ℕ) → ContentRow → List ContentRow → Option EntryHead → Read Entries
entries_on value later keys r rs None = if opens_quote r.first r.rest then Err (byte_fault OpenQuote r.first.at) else Err (row_fault r)
entries_on value later keys r rs (Some h) = key_read value later keys r rs h.1 h.2 (key_of r.first r.rest h.0)

unfoldable pub entries : EntryValues → ℕ → ℕ → List (List ℕ) → List ContentRow → Read Entries
entries value zero m keys rs = Err (byte_fault NotANode 0)
entries value (suc n) m keys [] = Ok (no_entries, [])
entries value (suc n) m keys (r ∷ rs) = at_indent m r rs no_entries (entries_on value (λ ks rows. entries value n m ks rows) keys r rs (entry_of r))

abbrev pub as_sequence : ContentRow → Read Items → Read Tree
as_sequence r read = read >>= λ x. Ok (sequence x.0 (span r.first.at (items_end r.first.at x.0)), x.1)

abbrev pub as_mapping : ContentRow → Read Entries → Read Tree
as_mapping r read = read >>= λ x. Ok (mapping x.0 (span r.first.at (entries_end r.first.at x.0)), x.1)

-- One node. With true it is a sequence at the indent of the mapping around it.
unfoldable pub node_at : List ℕ → ℕ → Bool → Reader
node_at bytes zero own above r rs = if begins_block r then Err (character_fault TooDeep r.first) else value_on bytes above zero r rs
node_at bytes (suc d) own above r rs =
    if is_item r then as_sequence r (items (λ a x xs. node_at bytes d false a x xs) (suc (length (r ∷ rs))) own (indent r) (r ∷ rs))
    else if begins_block r then as_mapping r (entries (λ begin colon behind xs. entry_value bytes d (λ o a x ys. node_at bytes d o a x ys) (indent r) begin colon behind xs) (suc (length (r ∷ rs))) (indent r) [] (r ∷ rs))
    else value_on bytes above (suc d) r rs

-- ---- the document

abbrev pub behind_root : ContentRow → Tree × List ContentRow → Result Tree Fault
behind_root r (t, []) = Ok t
behind_root r (t, next ∷ later) = if begins_block r then Err (indent_fault next) else Err (row_fault next)

unfoldable pub document_of : List ℕ → List ContentRow → Result Tree Fault
document_of bytes [] = Ok (empty_at 0)
document_of bytes (r ∷ rs) = node_at bytes 16 false 0 r rs >>= λ x. behind_root r x
