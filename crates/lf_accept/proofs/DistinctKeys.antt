-- No mapping of a file's tree has a key twice.
use Rattle.std.proofs.Common.{◌≡◌, ℕ, Bool, true, false, List, [], ◌∷◌, ◌++◌, map, Option, Some, None, subst}
use Rattle.std.specs.Prelude.{cond, option_map}
use Rattle.std.specs.List.{AllByRecursion, Contains, IsDistinct}
use Rattle.std.specs.Str.{bytes_eq}
use Rattle.std.proofs.lemmas.List.Elements.{Contains-append_left, Contains-append_right}
use Rattle.lf_scalar.specs.Cells.{Cell, Value}
use Rattle.lf_semantics.proofs.Members.{here, other_false}
use Rattle.lf_yaml.specs.Document as D
use Rattle.lf_yaml.specs.Document.{IsTree}
use Rattle.lf_yaml.specs.Flow as F
use Rattle.lf_yaml.specs.Flow.{FlowValue, MappingIn, SequenceIn}
use Rattle.lf_yaml.specs.Nodes as N
use Rattle.lf_yaml.specs.Nodes.{BlockAt, EntriesAt, EntryAt, EntryValue, ItemValue, ItemsAt, NodeAt, ValueAt}
use Rattle.lf_yaml.specs.Rows.{ContentRow}
use Rattle.lf_yaml.specs.Tree.{Tree, leaf, sequence, mapping, Items, no_items, item, Entries, no_entries, entry}
use Rattle.lf_rules.specs.Mappings.{Pairing, entry_at, given, given_entry, is_empty, pairs, trees, unless_empty}
use Rattle.lf_base.specs.Names.{Bytes}

-- ---- trees

-- each key differs from those before it, in each mapping of the tree
abbrev mutual
  pub KeysDiffer : Tree → Type 0
  KeysDiffer (leaf v) = Unit {0}
  KeysDiffer (sequence is span) = ItemsDiffer is
  KeysDiffer (mapping es span) = EntriesDiffer es []

  pub ItemsDiffer : Items → Type 0
  ItemsDiffer no_items = Unit {0}
  ItemsDiffer (item t is) = KeysDiffer t × ItemsDiffer is

  -- and from the keys before these
  pub EntriesDiffer : Entries → List Bytes → Type 0
  EntriesDiffer no_entries keys = Unit {0}
  EntriesDiffer (entry v t es) keys = (Contains keys v.text → ⊥) × KeysDiffer t × EntriesDiffer es (keys ++ v.text ∷ [])

module _ (bytes : List ℕ) where
  flow_items : {at : ℕ} {is : Items} {closing : Cell} → SequenceIn bytes at is closing → ItemsDiffer is
  flow_items (F.closes part byte) = tt
  flow_items (F.last part scalar sign byte) = (tt, tt)
  flow_items (F.more part scalar sign byte later) = (tt, flow_items later)

  flow_value : {colon : Cell} {t : Tree} {after : ℕ} → FlowValue bytes colon t after → KeysDiffer t
  flow_value (F.missing part ends) = tt
  flow_value (F.scalar part scalar) = tt

  flow_entries : {keys : List Bytes} {at : ℕ} {es : Entries} {closing : Cell} → MappingIn bytes keys at es closing → EntriesDiffer es keys
  flow_entries (F.closes keys part byte) = tt
  flow_entries (F.last e part byte) = (e.is_new, flow_value e.value, tt)
  flow_entries (F.more e part byte later) = (e.is_new, flow_value e.value, flow_entries later)

  value_differs : {above d : ℕ} {r : ContentRow} {rs rest : List ContentRow} {t : Tree} → ValueAt bytes above d r rs t rest → KeysDiffer t
  value_differs (N.scalar rs begins is) = tt
  value_differs (N.flow_sequence rs byte is tail) = flow_items is
  value_differs (N.flow_mapping rs byte is tail) = flow_entries is

  mutual
    node_differs : {above d : ℕ} {r : ContentRow} {rs rest : List ContentRow} {t : Tree} → NodeAt bytes above d r rs t rest → KeysDiffer t
    node_differs (N.value begins v) = value_differs v
    node_differs (N.block above b) = block_differs b

    block_differs : {d : ℕ} {own : Bool} {r : ContentRow} {rs rest : List ContentRow} {t : Tree} → BlockAt bytes d own r rs t rest → KeysDiffer t
    block_differs (N.block_sequence is) = items_differ is
    block_differs (N.block_mapping es) = entries_differ es

    items_differ : {d m : ℕ} {own : Bool} {r : ContentRow} {rs rest : List ContentRow} {is : Items} → ItemsAt bytes d own m r rs is rest → ItemsDiffer is
    items_differ (N.last_item at is v ends) = (item_differs v, tt)
    items_differ (N.more_items at is v later) = (item_differs v, items_differ later)

    item_differs : {d m : ℕ} {r : ContentRow} {rs rest : List ContentRow} {t : Tree} → ItemValue bytes d m r rs t rest → KeysDiffer t
    item_differs (N.item_here tabs left n) = node_differs n
    item_differs (N.item_below tabs left below n) = node_differs n
    item_differs (N.item_empty d tabs left none) = tt

    entries_differ : {d m : ℕ} {keys : List Bytes} {r : ContentRow} {rs rest : List ContentRow} {es : Entries} → EntriesAt bytes d m keys r rs es rest → EntriesDiffer es keys
    entries_differ (N.last_entry e ends) = let k = entry_differs e in (k.0, k.1, tt)
    entries_differ (N.more_entries e later) = let k = entry_differs e in (k.0, k.1, entries_differ later)

    entry_differs : {d m : ℕ} {keys : List Bytes} {r : ContentRow} {rs rest : List ContentRow} {v : Value} {t : Tree} → EntryAt bytes d m keys r rs v t rest → (Contains keys v.text → ⊥) × KeysDiffer t
    entry_differs (N.an_entry at begins is_key is_new v) = (is_new, behind_key v)

    behind_key : {d m begin : ℕ} {colon : Cell} {behind : List Cell} {rs rest : List ContentRow} {t : Tree} → EntryValue bytes d m begin colon behind rs t rest → KeysDiffer t
    behind_key (N.value_here colon left begins v) = value_differs v
    behind_key (N.value_below colon left below n) = node_differs n
    behind_key (N.value_beside colon left at is b) = block_differs b
    behind_key (N.value_missing d colon left none) = tt

  document_differs : {rs : List ContentRow} {t : Tree} → D.DocumentAt bytes rs t → KeysDiffer t
  document_differs D.nothing = tt
  document_differs (D.a_node n) = node_differs n

  pub keys_differ : (t : Tree) → IsTree bytes t → KeysDiffer t
  keys_differ t is = document_differs is.document

-- ---- mappings

abbrev pub key_of : Pairing → Bytes
key_of e = e.0.text

apart : (es : Entries) (keys : List Bytes) → EntriesDiffer es keys → (key : Bytes) → Contains keys key → AllByRecursion (λ other. bytes_eq key other ≡ false) (map key_of (pairs es))
apart no_entries keys h key c = tt
apart (entry v t es) keys h key c = (
  other_false key v.text (λ same. h.0 (subst (Contains keys) same c)),
  apart es (keys ++ v.text ∷ []) h.2 key (Contains-append_left keys (v.text ∷ []) key c),
)

pub keys_distinct : (es : Entries) (keys : List Bytes) → EntriesDiffer es keys → IsDistinct bytes_eq (map key_of (pairs es))
unfolding IsDistinct
keys_distinct no_entries keys h = tt
keys_distinct (entry v t es) keys h = (
  apart es (keys ++ v.text ∷ []) h.2 v.text (Contains-append_right keys (v.text ∷ []) v.text (here v.text [])),
  keys_distinct es (keys ++ v.text ∷ []) h.2,
)

-- the keys of the values of a mapping differ too

abbrev ValueDiffers : Option Pairing → Type 0
ValueDiffers None = Unit {0}
ValueDiffers (Some e) = KeysDiffer e.1

entry_value : (key : Bytes) (es : Entries) (keys : List Bytes) → EntriesDiffer es keys → ValueDiffers (entry_at key (pairs es))
unfolding entry_at
entry_value key no_entries keys h = tt
entry_value key (entry v t es) keys h = by (bytes_eq v.text key) (entry_value key es (keys ++ v.text ∷ []) h.2)
  where
    by : (b : Bool) → ValueDiffers (entry_at key (pairs es)) → ValueDiffers (cond b (Some (v, t)) (entry_at key (pairs es)))
    by true later = h.1
    by false later = later

unless_missing : (o : Option Pairing) → ValueDiffers o → ValueDiffers (unless_empty o)
unless_missing None h = tt
unless_missing (Some e) h = by (is_empty e.1)
  where
    by : (b : Bool) → ValueDiffers (cond b None (Some e))
    by true = tt
    by false = h

abbrev pub GivenDiffers : Option Tree → Type 0
GivenDiffers None = Unit {0}
GivenDiffers (Some t) = KeysDiffer t

pub given_differs : (key : Bytes) (es : Entries) (keys : List Bytes) → EntriesDiffer es keys → GivenDiffers (given key (pairs es))
given_differs key es keys h = by (given_entry key (pairs es)) (unless_missing (entry_at key (pairs es)) (entry_value key es keys h))
  where
    by : (o : Option Pairing) → ValueDiffers o → GivenDiffers (option_map (λ e. e.1) o)
    by None k = tt
    by (Some e) k = k

pub trees_differ : (is : Items) → ItemsDiffer is → AllByRecursion KeysDiffer (trees is)
trees_differ no_items h = tt
trees_differ (item t is) h = (h.0, trees_differ is h.1)
