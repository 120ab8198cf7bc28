-- The entries of a mapping, and which of its keys count as missing.
use Rattle.std.specs.Prelude.{Bool, false, cond, List, [], ◌∷◌, Option, Some, None, option_map}
use Rattle.std.specs.Str.{bytes_eq}
use Rattle.lf_base.specs.declared.place.Span.{Span}
use Rattle.lf_scalar.specs.Cells.{Value}
use Rattle.lf_yaml.specs.Tree.{Tree, leaf, sequence, mapping, Items, no_items, item, Entries, no_entries, entry}
use Rattle.lf_base.specs.Names.{Bytes}

-- a key and its value
abbrev pub Pairing : Type 0
Pairing = Value × Tree

abbrev pub pairs : Entries → List Pairing
pairs no_entries = []
pairs (entry key value es) = (key, value) ∷ pairs es

abbrev pub trees : Items → List Tree
trees no_items = []
trees (item t is) = t ∷ trees is

abbrev pub place : Tree → Span
place (leaf v) = v.span
place (sequence is span) = span
place (mapping es span) = span

-- a scalar without a text: nothing, a word that is null, or quotes with nothing between them
abbrev pub is_empty : Tree → Bool
is_empty (leaf v) = bytes_eq v.text []
is_empty (sequence is span) = false
is_empty (mapping es span) = false

-- the entry with this key, the first where there are more
unfoldable pub entry_at : Bytes → List Pairing → Option Pairing
entry_at key [] = None
entry_at key (e ∷ es) = cond (bytes_eq e.0.text key) (Some e) (entry_at key es)

-- where the value is the empty text, the key counts as missing
abbrev pub unless_empty : Option Pairing → Option Pairing
unless_empty None = None
unless_empty (Some e) = cond (is_empty e.1) None (Some e)

-- the entry of a key that isn't missing, and its value
abbrev pub given_entry : Bytes → List Pairing → Option Pairing
given_entry key es = unless_empty (entry_at key es)

abbrev pub given : Bytes → List Pairing → Option Tree
given key es = option_map (λ e. e.1) (given_entry key es)
