-- What the code found in one turn over a flow collection, as what is read there. It defines nothing of trees.
use Rattle.std.specs.Prelude.{◌≡◌, ℕ, ◌<◌, ◌≤◌, List, [], ◌∷◌, ◌++◌, length, suc, Result, Ok, Err, map, if◌then◌else◌}
use Rattle.lf_base.specs.declared.refusal.Refusal.{Refusal}
use Rattle.lf_base.specs.declared.kind.Kind.TheVariants.{DoubleKey}
use Rattle.lf_base.specs.declared.fault.Fault.{Fault}
use Rattle.lf_base.specs.declared.place.Span.{Span}
use Rattle.lf_base.specs.Faults.{fault}
use Rattle.lf_scalar.specs.Cells.{Cell, Value, Fails, ◌>>=◌}
use Rattle.lf_yaml.specs.Tree.{Tree, sequence, mapping, Items, no_items, item, Entries, no_entries, entry, tree, pair, items_of, entries_of}
use Rattle.lf_yaml.specs.views.Shown.{shown}
use Rattle.lf_yaml.specs.views.Places.{IsPartIn, IsPlaceIn}
use Rattle.lf_yaml.specs.reading.Trees.{FlowRead, FlowTree, as_tree, with_item, with_entry, Keys, Later, Signed, has, flow_key, flow_value, sequence_in, mapping_in}
use Rattle.lf_yaml.specs.views.KeySets.{HasKeys}
use Rattle.lf_yaml.specs.declared.key_set.KeySet.{KeySet}
use Rattle.lf_yaml.specs.declared.place.FlowCursor.{FlowCursor}
use Rattle.lf_yaml.specs.declared.node.Node.{Node}
use Rattle.lf_yaml.specs.declared.node.Entry.{Entry}
use Rattle.lf_yaml.specs.declared.turn.Turn.{Turn}
use Rattle.lf_yaml.specs.declared.turn.Turn.TheVariants as turn

-- what a turn found lies in the file, and no turn goes back: a closing bracket stands at an offset or behind it, and so does a comma
abbrev pub IsTurnIn : {T : Type 0} → List ℕ → ℕ → Turn T → Type 0
IsTurnIn bytes from (turn.Ends closing next) = IsPartIn bytes closing next × (from ≤ closing.at)
IsTurnIn bytes from (turn.Last found closing next) = IsPartIn bytes closing next × (from ≤ closing.at)
IsTurnIn bytes from (turn.More found place) = IsPlaceIn bytes place × (from < place.at)

-- What a turn over a collection gives where some parts were found before it: all that is read of the collection, or what is read behind one part more.
-- `node` makes the collection's tree of its parts, and `behind` says what is read where some parts were found and the rest begins at an offset.
abbrev pub TurnGives : {T : Type 0} → (List T → Span → Tree) → (List T → ℕ → FlowTree → Type 0) → List T → FlowTree → Result (Turn T) Refusal → Type 0
TurnGives node behind found read (Ok (turn.Ends closing next)) = read ≡ Ok (node found, (shown closing).first)
TurnGives node behind found read (Ok (turn.Last part closing next)) = read ≡ Ok (node (found ++ part ∷ []), (shown closing).first)
TurnGives node behind found read (Ok (turn.More part place)) = behind (found ++ part ∷ []) place.at read
TurnGives node behind found read (Err e) = Fails e read

-- ---- sequences

abbrev pub turned_items : (ℕ → FlowRead Items) → Turn Node → FlowRead Items
turned_items later (turn.Ends closing next) = Ok (no_items, (shown closing).first)
turned_items later (turn.Last found closing next) = Ok (item (tree found) no_items, (shown closing).first)
turned_items later (turn.More found place) = with_item (tree found) (later place.at)

-- a turn, or what it refused, is what is read
abbrev pub TurnsItems : (ℕ → FlowRead Items) → Result (Turn Node) Refusal → FlowRead Items → Type 0
TurnsItems later (Ok turn) read = read ≡ turned_items later turn
TurnsItems later (Err e) read = Fails e read

-- what is read behind some items
abbrev pub after_items : {B : Type 0} → List Tree → Result (Items × B) Fault → Result (Items × B) Fault
after_items [] read = read
after_items (t ∷ ts) read = with_item t (after_items ts read)

-- all that is read from an offset on, with as many turns as are enough
abbrev pub items_from : List ℕ → ℕ → FlowRead Items
items_from bytes at = sequence_in bytes (suc (length bytes)) at

abbrev pub items_tree : List Node → Span → Tree
items_tree found = sequence (items_of (map tree found))

-- what is read of a sequence where some items were found, and the rest begins at an offset
abbrev pub ItemsBehind : List ℕ → List Node → ℕ → FlowTree → Type 0
ItemsBehind bytes found at read = as_tree sequence (after_items (map tree found) (items_from bytes at)) ≡ read

-- ---- mappings

abbrev pub turned_entries : Later → List (List ℕ) → Turn Entry → FlowRead Entries
turned_entries later keys (turn.Ends closing next) = Ok (no_entries, (shown closing).first)
turned_entries later keys (turn.Last found closing next) = Ok (entry (pair found).0 (pair found).1 no_entries, (shown closing).first)
turned_entries later keys (turn.More found place) = with_entry (pair found).0 (pair found).1 (later (keys ++ (pair found).0.text ∷ []) place.at)

abbrev pub TurnsEntries : Later → List (List ℕ) → Result (Turn Entry) Refusal → FlowRead Entries → Type 0
TurnsEntries later keys (Ok turn) read = read ≡ turned_entries later keys turn
TurnsEntries later keys (Err e) read = Fails e read

-- a key that is new to those before it, and its `:`
abbrev pub new_key : List ℕ → List (List ℕ) → Cell → List Cell → Result Signed Fault
new_key bytes keys c cs = flow_key bytes c cs >>= λ k. if has keys k.0.text then Err (fault DoubleKey k.0.span) else Ok k

-- such a key, its value, and where the mapping is read on
abbrev pub entry_at : List ℕ → List (List ℕ) → Cell → List Cell → Result (Value × Tree × ℕ) Fault
entry_at bytes keys c cs = new_key bytes keys c cs >>= λ k. flow_value bytes k.1 >>= λ x. Ok (k.0, x.0, x.1)

abbrev pub left_behind : Entry × FlowCursor → Value × Tree × ℕ
left_behind x = ((pair x.0).0, (pair x.0).1, x.1.at)

-- behind a comma the set has the text of the key too
abbrev pub HasTurned : KeySet → List (List ℕ) → Turn Entry → Type 0
HasTurned set keys (turn.Ends closing next) = Unit {0}
HasTurned set keys (turn.Last found closing next) = Unit {0}
HasTurned set keys (turn.More found place) = HasKeys set (keys ++ (pair found).0.text ∷ [])

-- what is read behind some entries
abbrev pub after_entries : {B : Type 0} → List (Value × Tree) → Result (Entries × B) Fault → Result (Entries × B) Fault
after_entries [] read = read
after_entries (e ∷ es) read = with_entry e.0 e.1 (after_entries es read)

-- the texts of the keys of some entries
abbrev pub texts_of : List (Value × Tree) → Keys
texts_of es = map (λ e. e.0.text) es

-- all that is read from an offset on, behind some keys
abbrev pub entries_from : List ℕ → Keys → ℕ → FlowRead Entries
entries_from bytes keys at = mapping_in bytes (suc (length bytes)) keys at

abbrev pub entries_tree : List Entry → Span → Tree
entries_tree found = mapping (entries_of (map pair found))

-- what is read of a mapping where some entries were found, the set has the texts of their keys, and the rest begins at an offset
abbrev pub EntriesBehind : List ℕ → KeySet → List Entry → ℕ → FlowTree → Type 0
EntriesBehind bytes set found at read =
    HasKeys set (texts_of (map pair found)) × (as_tree mapping (after_entries (map pair found) (entries_from bytes (texts_of (map pair found)) at)) ≡ read)
