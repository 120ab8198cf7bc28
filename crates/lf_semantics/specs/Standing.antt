-- What stands in an expression, and what is found there. Nothing within a scalar is looked at.
use Rattle.std.specs.Prelude.{List, [], ◌∷◌, ◌++◌}
use Rattle.lf_ast.specs.Tree.{Tree, Trees, Number, Str, Selector, Subquery, Paren, Unary, Binary, Call, Aggregate, Nil, Next}
use Rattle.lf_semantics.specs.Parts.{outside_scalars}

-- where something is found at each expression by itself
module _ {X : Type 0} (own : Tree → List X) where
  abbrev mutual
    -- what is found at an expression and at what stands in its parts, in the order of their text
    pub found_in : Tree → List X
    found_in (Number text span) = own (Number text span)
    found_in (Str text span) = own (Str text span)
    found_in (Selector name matchers sight span) = own (Selector name matchers sight span)
    found_in (Subquery of sight span) = own (Subquery of sight span) ++ outside_scalars of (found_in of)
    found_in (Paren of span) = own (Paren of span) ++ outside_scalars of (found_in of)
    found_in (Unary minus of span) = own (Unary minus of span) ++ outside_scalars of (found_in of)
    found_in (Binary op m left right span) = own (Binary op m left right span) ++ (outside_scalars left (found_in left) ++ outside_scalars right (found_in right))
    found_in (Call name args span) = own (Call name args span) ++ found_in_arguments args
    found_in (Aggregate op grouping args span) = own (Aggregate op grouping args span) ++ found_in_arguments args

    pub found_in_arguments : Trees → List X
    found_in_arguments Nil = []
    found_in_arguments (Next x xs) = outside_scalars x (found_in x) ++ found_in_arguments xs

-- an expression, and what stands in its parts
abbrev pub standing_in : Tree → List Tree
standing_in e = found_in (λ (x : Tree). x ∷ []) e

abbrev pub arguments_standing : Trees → List Tree
arguments_standing args = found_in_arguments (λ (x : Tree). x ∷ []) args

-- an expression and the expressions in it, in the order of their text, but for scalars and what stands in them
abbrev pub standing : Tree → List Tree
standing e = outside_scalars e (standing_in e)
