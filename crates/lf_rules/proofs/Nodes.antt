-- A node of the code as a tree.
use Rattle.std.proofs.Common.{◌≡◌, [], ◌++◌, Bool, List, Some, map, refl, ap, ◌∙◌, codes}
use Rattle.std.specs.List.{flat_map}
use Rattle.lf_base.specs.declared.place.Span.{Span}
use Rattle.lf_yaml.specs.declared.node.Entry.{Entry}
use Rattle.lf_yaml.specs.declared.node.Node as Node
use Rattle.lf_yaml.specs.declared.node.Node.{Node}
use Rattle.lf_yaml.specs.Tree.{Tree, tree, pair, leaf, sequence, mapping}
use Rattle.lf_yaml.proofs.TreeOf.{list_tree, map_tree}
use Rattle.lf_rules.specs.Mappings.{entry_at, given}
use Rattle.lf_rules.specs.reading.Files.{setting_faults, settings_faults, rule_faults, rule_tree_faults, rules_faults, group_faults, group_tree_faults, names_faults, groups_faults, file_faults, faults}
use Rattle.lf_rules.specs.reading.Files as reading
use Rattle.lf_rules.proofs.Folded.{pairs_back, trees_back}

-- ---- faults of nodes of the code

pub settings_map : (is_labels : Bool) (node : Node) (entries : List Entry) (span : Span) → node ≡ Node.Map entries span → settings_faults is_labels (Some (tree node)) ≡ flat_map (setting_faults is_labels) (map pair entries)
settings_map is_labels node entries span is = ap (λ t. settings_faults is_labels (Some t)) (map_tree node entries span is) ∙ ap (flat_map (setting_faults is_labels)) (pairs_back (map pair entries))

pub rule_map : (node : Node) (entries : List Entry) (span : Span) → node ≡ Node.Map entries span → rule_tree_faults (tree node) ≡ rule_faults span (map pair entries)
rule_map node entries span is = ap rule_tree_faults (map_tree node entries span is) ∙ ap (rule_faults span) (pairs_back (map pair entries))

pub rules_list : (node : Node) (items : List Node) (span : Span) → node ≡ Node.List items span → rules_faults (Some (tree node)) ≡ flat_map rule_tree_faults (map tree items)
rules_list node items span is = ap (λ t. rules_faults (Some t)) (list_tree node items span is) ∙ ap (flat_map rule_tree_faults) (trees_back (map tree items))

pub group_map : (node : Node) (entries : List Entry) (span : Span) → node ≡ Node.Map entries span → group_tree_faults (tree node) ≡ group_faults span (map pair entries)
group_map node entries span is = ap group_tree_faults (map_tree node entries span is) ∙ ap (group_faults span) (pairs_back (map pair entries))

pub groups_list : (node : Node) (items : List Node) (span : Span) → node ≡ Node.List items span → groups_faults (Some (tree node)) ≡ flat_map group_tree_faults (map tree items) ++ names_faults [] (map tree items)
groups_list node items span is = ap (λ t. groups_faults (Some t)) (list_tree node items span is) ∙ ap (λ ts. flat_map group_tree_faults ts ++ names_faults [] ts) (trees_back (map tree items))

pub file_map : (node : Node) (entries : List Entry) (span : Span) → node ≡ Node.Map entries span → faults (tree node) ≡ file_faults span (map pair entries)
file_map node entries span is = ap faults (map_tree node entries span is) ∙ ap (file_faults span) (pairs_back (map pair entries))

-- ---- what the code finds in a node

pub entries_map : (node : Node) (entries : List Entry) (span : Span) → node ≡ Node.Map entries span → reading.entries_of (tree node) ≡ map pair entries
entries_map node entries span is = ap reading.entries_of (map_tree node entries span is) ∙ pairs_back (map pair entries)

pub items_list : (node : Node) (items : List Node) (span : Span) → node ≡ Node.List items span → reading.items_of (Some (tree node)) ≡ map tree items
items_list node items span is = ap (λ t. reading.items_of (Some t)) (list_tree node items span is) ∙ trees_back (map tree items)

-- a group's name, by its entries
pub name_at : (t : Tree) → reading.name_of t ≡ reading.scalar_of (given (codes "name") (reading.entries_of t))
unfolding entry_at
name_at (leaf v) = refl
name_at (sequence items s) = refl
name_at (mapping es s) = refl
