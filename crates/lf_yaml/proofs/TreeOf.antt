-- The tree of a sequence and of a mapping of the code. That of a scalar is so by computation.
use Rattle.std.proofs.Common.{◌≡◌, List, map, refl, ap, ◌∙◌}
use Rattle.lf_base.specs.declared.place.Span.{Span}
use Rattle.lf_scalar.specs.Scalars.{value}
use Rattle.lf_yaml.specs.Tree.{tree, pair, item, entry, sequence, mapping, item_row, entry_row, items_of, entries_of}
use Rattle.lf_yaml.specs.declared.node.Node as N
use Rattle.lf_yaml.specs.declared.node.Node.{Node}
use Rattle.lf_yaml.specs.declared.node.Node.TheVariants as V
use Rattle.lf_yaml.specs.declared.node.Entry.{Entry}

item-row : {n : _} (row : N.Row_of-Node n) → item_row row ≡ items_of (map tree (N.items-the_row-Node _ row))
item-row N.end_of-Node = refl
item-row (N.more_of-Node of rest) = ap (item (tree of)) (item-row rest)

entry-row : {n : _} (row : N.Row_of-Entry n) → entry_row row ≡ entries_of (map pair (N.items-the_row-Entry _ row))
entry-row N.end_of-Entry = refl
entry-row (N.more_of-Entry key of rest) = ap (entry (value key) (tree of)) (entry-row rest)

pub list_tree : (node : Node) (items : List Node) (span : Span) → node ≡ V.List items span → tree node ≡ sequence (items_of (map tree items)) span
list_tree node items span is =
    ap tree is ∙ ap (λ xs. sequence xs span) (item-row (N.TheBlock.hidden-the_row-Node-1 items) ∙ ap (λ ns. items_of (map tree ns)) (N.items_hidden-the_row-Node-1 items))

pub map_tree : (node : Node) (entries : List Entry) (span : Span) → node ≡ V.Map entries span → tree node ≡ mapping (entries_of (map pair entries)) span
map_tree node entries span is =
    ap tree is ∙ ap (λ xs. mapping xs span) (entry-row (N.TheBlock.hidden-the_row-Entry-0 entries) ∙ ap (λ es. entries_of (map pair es)) (N.items_hidden-the_row-Entry-0 entries))
