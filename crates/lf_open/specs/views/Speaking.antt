-- The selectors, calls and aggregations that stand in an expression: how contracts see the code. It defines nothing.
use Rattle.std.specs.Prelude.{◌≡◌, ◌↔◌, Bool, true, false, cond, List, [], ◌∷◌}
use Rattle.std.specs.List.{Contains}
use Rattle.lf_ast.specs.Tree.{Tree, Selector, Call, Aggregate}
use Rattle.lf_semantics.specs.Standing.{standing}

-- it is a selector, a call or an aggregation
abbrev pub speaks : Tree → Bool
speaks (Selector name matchers sight span) = true
speaks (Call name args span) = true
speaks (Aggregate op grouping args span) = true
speaks _ = false

-- itself, if it is
abbrev pub own_speaking : Tree → List Tree
own_speaking x = cond (speaks x) (x ∷ []) []

-- they are those that stand in the expression, in whatever order
abbrev pub AreSpeaking : Tree → List Tree → Type 0
AreSpeaking e found = (x : Tree) → Contains found x ↔ (Contains (standing e) x × (speaks x ≡ true))
