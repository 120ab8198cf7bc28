-- The trees of rules, by those of each.
use Rattle.std.proofs.Common.{◌≡◌, ◌+◌, ◌<◌, ℕ, List, [], ◌∷◌, ◌++◌, map, take, length, get_or, Some, refl, sym, ◌∙◌, ap}
use Rattle.std.specs.Prelude.{slice_get, option_map}
use Rattle.std.proofs.lemmas.List.{length-map, map-append, take_more}
use Rattle.std.proofs.lemmas.Option.{slice_get-map}
use Rattle.lf_ast.specs.Rules.{RuleTree, rule_tree, rule_trees}
use Rattle.lf_ast.specs.declared.rule.Rule.{Rule}

pub trees_count : (rules : List Rule) → length (rule_trees rules) ≡ length rules
trees_count rules = length-map rules rule_tree

pub tree_at : (rules : List Rule) (k : ℕ) (r : Rule) → slice_get rules k ≡ Some r → slice_get (rule_trees rules) k ≡ Some (rule_tree r)
tree_at rules k r e = slice_get-map rule_tree rules k ∙ ap (option_map rule_tree) e

-- one more rule
pub trees_more : (rules : List Rule) (k : ℕ) (r : Rule) → k < length rules → r ≡ get_or rules k r → rule_trees (take k rules) ++ rule_tree r ∷ [] ≡ rule_trees (take (k + 1) rules)
trees_more rules k r h is =
    sym (map-append rule_tree (take k rules) (r ∷ [])) ∙ ap (λ (x : Rule). rule_trees (take k rules ++ x ∷ [])) is ∙ ap rule_trees (sym (take_more rules k r h))

-- what is made of each
pub map_trees : {X : Type 0} (f : RuleTree → X) (rules : List Rule) → map (λ (r : Rule). f (rule_tree r)) rules ≡ map f (rule_trees rules)
map_trees f [] = refl
map_trees f (r ∷ rules) = ap (λ l. f (rule_tree r) ∷ l) (map_trees f rules)
