-- What a tree is: a node of the code without where it lies in memory.
use Rattle.std.specs.Prelude.{List, [], ◌∷◌}
use Rattle.lf_base.specs.declared.place.Span.{Span}
use Rattle.lf_scalar.specs.Cells.{Value}
use Rattle.lf_scalar.specs.Scalars.{value}
use Rattle.lf_yaml.specs.declared.node.Node as N
use Rattle.lf_yaml.specs.declared.node.Node.{Node}
use Rattle.lf_yaml.specs.declared.node.Entry.{Entry}

mutual
  -- a scalar; a sequence with its items; a mapping with its entries
  pub data Tree : Type 0 where
    leaf : Value → Tree
    sequence : Items → Span → Tree
    mapping : Entries → Span → Tree

  pub data Items : Type 0 where
    no_items : Items
    item : Tree → Items → Items

  pub data Entries : Type 0 where
    no_entries : Entries
    entry : Value → Tree → Entries → Entries

-- ---- what the code's nodes stand for: the form that items and entries have in memory is left out

abbrev mutual
  -- the tree of a node
  pub tree : Node → Tree
  tree (N.Scalar of) = leaf (value of)
  tree (N.List' shape items span) = sequence (item_row items) span
  tree (N.Map' shape entries span) = mapping (entry_row entries) span

  -- the trees of items as they lie in a node
  pub item_row : {n : _} → N.Row_of-Node n → Items
  item_row N.end_of-Node = no_items
  item_row (N.more_of-Node of rest) = item (tree of) (item_row rest)

  -- keys and the trees of their values, as entries lie in a node
  pub entry_row : {n : _} → N.Row_of-Entry n → Entries
  entry_row N.end_of-Entry = no_entries
  entry_row (N.more_of-Entry key of rest) = entry (value key) (tree of) (entry_row rest)

-- a key and the tree of its value
abbrev pub pair : Entry → Value × Tree
pair e = (value e.key, tree e.value)

-- ---- items and entries of lists

abbrev pub items_of : List Tree → Items
items_of [] = no_items
items_of (t ∷ ts) = item t (items_of ts)

abbrev pub entries_of : List (Value × Tree) → Entries
entries_of [] = no_entries
entries_of (e ∷ es) = entry e.0 e.1 (entries_of es)
