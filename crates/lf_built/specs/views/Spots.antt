-- Expressions with where they stand: how contracts see the code. It defines nothing.
use Rattle.std.specs.Prelude.{◌≡◌, List, Option, Some, None, slice_get}
use Rattle.lf_ast.specs.Rules.{RuleTree}
use Rattle.lf_ast.specs.Labels.{Bytes}
use Rattle.lf_ast.specs.Tree.{Tree, Selector, tree, nodes}
use Rattle.lf_ast.specs.declared.expr.Matcher.{Matcher}
use Rattle.lf_ast.specs.declared.expr.Sight.{Sight}
use Rattle.lf_base.specs.declared.place.Span.{Span}
use Rattle.lf_built.specs.declared.spots.Spot.{Spot}
use Rattle.lf_built.specs.views.Places.{StandsFrom}

-- the tree of the expression
abbrev pub tree_at : Spot → Tree
tree_at spot = tree spot.expr.now

-- the expression stands at its place among the parts of its rule's expression
abbrev pub IsSpot : List RuleTree → Spot → Type 0
IsSpot rules spot = (r : RuleTree) × (slice_get rules spot.rule ≡ Some r) × StandsFrom (nodes r.expr) spot.place (tree_at spot)

-- the expression is a selector with this name before its braces, and these matchers
abbrev pub IsSelector : Tree → Option Bytes → List Matcher → Type 0
IsSelector e name matchers = (sight : Sight) × (span : Span) × (e ≡ Selector name matchers sight span)

-- a part of an expression, if there is one, and where it stands
abbrev pub IsPartSpot : List RuleTree → Option Tree → Option Spot → Type 0
IsPartSpot rules (Some e) (Some spot) = IsSpot rules spot × (tree_at spot ≡ e)
IsPartSpot rules None None = Unit {0}
IsPartSpot rules _ _ = ⊥
