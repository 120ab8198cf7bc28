-- The law of the visit that finds the selectors of an expression: it has its own, and those of its parts. It defines nothing.
use Rattle.std.proofs.Common.{◌≡◌, Bool, true, false, ◌&&◌, cond, List, [], ◌∷◌, ◌++◌, Option, Some, None, refl, sym, ◌∙◌, ap, true≢false}
use Rattle.std.specs.List.{flat_map}
use Rattle.std.proofs.lemmas.List.{append-nil, append_assoc}
use Rattle.lf_ast.specs.Labels.{Bytes}
use Rattle.lf_ast.specs.Tree.{Tree, Trees, Number, Str, Selector, Subquery, Paren, Unary, Binary, Call, Aggregate, Nil, Next, list, parts_of}
use Rattle.lf_ast.specs.Types.{is_scalar, joined, selected}
use Rattle.lf_ast.specs.declared.expr.ExprType.{ExprType}
use Rattle.lf_ast.specs.declared.expr.ExprType.TheVariants.{Scalar, Vector}
use Rattle.lf_semantics.specs.Parts.{is_scalar_part, type_by_form}
use Rattle.lf_deps.specs.Reading.{arguments_selectors, own_selectors, selectors, selectors_in}
use Rattle.lf_ast.specs.views.Walks.{along, chosen, further}
use Rattle.lf_ast.specs.declared.walk.choosing.Parts.TheVariants.{All, Nothing}
use Rattle.lf_deps.specs.declared.selecting.Selecting.{Selecting}
use Rattle.lf_deps.specs.views.Selecting.{is_scalar_call, parts_read}

abbrev Found : Type 0
Found = List (Option Bytes)

-- a selector is no scalar
of_selector : (range : Option Bytes) (x : Found) → cond (is_scalar (selected range)) [] x ≡ x
of_selector None x = refl
of_selector (Some duration) x = refl

-- what has the type of its part has its selectors
of_same : (scalar : Bool) (x : Found) → cond scalar [] (cond scalar [] x) ≡ cond scalar [] x
of_same true x = refl
of_same false x = refl

-- an operator is a scalar only between scalars, which have no selectors
of_sides : (l r : ExprType) (x y : Found) → cond (is_scalar (joined l r)) [] (cond (is_scalar l) [] x ++ cond (is_scalar r) [] y) ≡ cond (is_scalar l) [] x ++ cond (is_scalar r) [] y
of_sides l r x y = by (is_scalar l) (is_scalar r)
  where
    by : (p q : Bool) → cond (is_scalar (cond (p && q) Scalar Vector)) [] (cond p [] x ++ cond q [] y) ≡ cond p [] x ++ cond q [] y
    by true true = refl
    by true false = refl
    by false true = refl
    by false false = refl

of_arguments : (args : Trees) → arguments_selectors args ≡ flat_map selectors (list args)
of_arguments Nil = refl
of_arguments (Next x xs) = ap (λ (l : Found). selectors x ++ l) (of_arguments xs)

of_only : (e : Tree) → selectors e ≡ flat_map selectors (e ∷ [])
of_only e = sym (append-nil (selectors e))

of_scalar_call : (e : Tree) → is_scalar_call e ≡ true → selectors e ≡ own_selectors e
of_scalar_call (Call name args span) is = ap (λ (b : Bool). cond b [] (arguments_selectors args)) is
of_scalar_call (Number text span) is = absurd (true≢false (sym is))
of_scalar_call (Str text span) is = absurd (true≢false (sym is))
of_scalar_call (Selector name matchers sight span) is = absurd (true≢false (sym is))
of_scalar_call (Subquery of sight span) is = absurd (true≢false (sym is))
of_scalar_call (Paren of span) is = absurd (true≢false (sym is))
of_scalar_call (Unary minus of span) is = absurd (true≢false (sym is))
of_scalar_call (Binary op m left right span) is = absurd (true≢false (sym is))
of_scalar_call (Aggregate op grouping args span) is = absurd (true≢false (sym is))

-- any other expression has its own and those of its parts
of_parts : (e : Tree) → is_scalar_call e ≡ false → selectors e ≡ own_selectors e ++ flat_map selectors (parts_of e)
of_parts (Number text span) is = refl
of_parts (Str text span) is = refl
of_parts (Selector name matchers sight span) is = of_selector sight.range (own_selectors (Selector name matchers sight span))
of_parts (Subquery of sight span) is = of_only of
of_parts (Paren of span) is = of_same (is_scalar_part of) (selectors_in of) ∙ of_only of
of_parts (Unary minus of span) is = of_same (is_scalar_part of) (selectors_in of) ∙ of_only of
of_parts (Binary op m left right span) is =
    of_sides (type_by_form left) (type_by_form right) (selectors_in left) (selectors_in right) ∙ ap (λ (l : Found). selectors left ++ l) (of_only right)
of_parts (Call name args span) is = ap (λ (b : Bool). cond b [] (arguments_selectors args)) is ∙ of_arguments args
of_parts (Aggregate op grouping args span) is = of_arguments args

-- a visit of an expression puts its selectors behind those found

abbrev after : Selecting → Found → Selecting
after s found = record { found = s.found ++ found }

abbrev Visited : Selecting → Tree → Selecting
Visited s e = after s (selectors e)

abbrev Stays : Selecting → Tree → Selecting
Stays s e = s

further_parts : (x : Tree) (parts : List Tree) (s : Selecting) → further Visited Stays x parts s ≡ after s (flat_map selectors parts)
further_parts x [] s = ap (λ (l : Found). record { found = l }) (sym (append-nil s.found))
further_parts x (p ∷ parts) s = further_parts x parts (Visited s p) ∙ ap (λ (l : Found). record { found = l }) (append_assoc s.found (selectors p) (flat_map selectors parts))

along_parts : (x : Tree) (parts : List Tree) (s : Selecting) → along Visited Stays x parts s ≡ after s (flat_map selectors parts)
along_parts x [] s = ap (λ (l : Found). record { found = l }) (sym (append-nil s.found))
along_parts x (p ∷ parts) s = further_parts x (p ∷ parts) s

pub visits : (s : Selecting) (x : Tree) → after s (selectors x) ≡ along Visited Stays x (chosen (parts_read x) (parts_of x)) (after s (own_selectors x))
visits s x = by (is_scalar_call x) refl
  where
    by : (b : Bool) → is_scalar_call x ≡ b → after s (selectors x) ≡ along Visited Stays x (chosen (cond b Nothing All) (parts_of x)) (after s (own_selectors x))
    by true is = ap (after s) (of_scalar_call x is)
    by false is =
        ap (after s) (of_parts x is)
        ∙ ap (λ (l : Found). record { found = l }) (sym (append_assoc s.found (own_selectors x) (flat_map selectors (parts_of x))))
        ∙ sym (along_parts x (parts_of x) (after s (own_selectors x)))
