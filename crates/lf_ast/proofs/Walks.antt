-- What is left to do of a walk, and that it gets less.
use Rattle.std.proofs.Common.{◌≡◌, ◌≤◌, ◌<◌, ◌+◌, ℕ, List, [], ◌∷◌, ◌++◌, map, drop, refl, ap, ◌∙◌, arith}
use Rattle.std.specs.List.{sum_by}
use Rattle.std.proofs.lemmas.List.Sums.{sum_by-cons, sum_by-take-drop, sum_by-take-le, sum_by_push}
use Rattle.lf_ast.specs.Tree.{Tree, Trees, Number, Str, Selector, Subquery, Paren, Unary, Binary, Call, Aggregate, Nil, Next, list, parts_of, tree, trees}
use Rattle.lf_ast.specs.declared.expr.Expr.{Expr}
use Rattle.lf_ast.specs.declared.walk.choosing.Frame.{Frame}
use Rattle.lf_ast.specs.declared.walk.choosing.Parts.{Parts}
use Rattle.lf_ast.specs.declared.walk.choosing.Parts.TheVariants.{All, From, Only, Nothing}
use Rattle.lf_ast.specs.views.Walks.{chosen}

-- arguments

pub list_trees : (args : List Expr) → list (trees args) ≡ map tree args
list_trees [] = refl
list_trees (e ∷ es) = ap (λ xs. tree e ∷ xs) (list_trees es)

-- the values of arguments
pub values_list : {V : Type 0} (value : Tree → V) (args : List Expr) → map value (list (trees args)) ≡ map (λ e. value (tree e)) args
values_list value [] = refl
values_list value (e ∷ es) = ap (λ vs. value (tree e) ∷ vs) (values_list value es)

-- weights

abbrev mutual
  -- more than that of the parts together
  pub weight : Tree → ℕ
  weight (Number text span) = 2
  weight (Str text span) = 2
  weight (Selector name matchers sight span) = 2
  weight (Subquery of sight span) = weight of + 2
  weight (Paren of span) = weight of + 2
  weight (Unary minus of span) = weight of + 2
  weight (Binary op m left right span) = weight left + weight right + 2
  weight (Call name args span) = weights args + 2
  weight (Aggregate op grouping args span) = weights args + 2

  pub weights : Trees → ℕ
  weights Nil = 0
  weights (Next x xs) = weight x + weights xs

weights_list : (args : Trees) → sum_by weight (list args) ≡ weights args
weights_list Nil = refl
weights_list (Next x xs) = sum_by-cons weight x (list xs) ∙ ap (λ n. weight x + n) (weights_list xs)

weight_parts : (x : Tree) → sum_by weight (parts_of x) + 2 ≡ weight x
weight_parts (Number text span) = refl
weight_parts (Str text span) = refl
weight_parts (Selector name matchers sight span) = refl
weight_parts (Subquery of sight span) = omega arith
weight_parts (Paren of span) = omega arith
weight_parts (Unary minus of span) = omega arith
weight_parts (Binary op m left right span) = omega arith
weight_parts (Call name args span) = ap (λ n. n + 2) (weights_list args)
weight_parts (Aggregate op grouping args span) = ap (λ n. n + 2) (weights_list args)

weight_chosen : (p : Parts) (xs : List Tree) → sum_by weight (chosen p xs) ≤ sum_by weight xs
weight_chosen All xs = omega arith
weight_chosen (From place) xs = omega (arith, sum_by-take-drop weight xs place)
weight_chosen (Only place) xs = omega (arith, sum_by-take-drop weight xs place, sum_by-take-le weight (drop place xs) 1)
weight_chosen Nothing xs = omega arith

-- what is left to do in a frame
abbrev pub left_of : {M N : Type 0} → Frame M N → List Tree
left_of f = chosen f.parts (parts_of (tree f.expr.now))

abbrev pub work : {M N : Type 0} → Frame M N → ℕ
work f = sum_by weight (left_of f) + 1

-- a frame is taken off the stack, and put back with one for the part that is gone into
module _ {M N : Type 0} (old front middle new : List (Frame M N)) (f g h : Frame M N) (taken : old ≡ front ++ f ∷ []) (back : middle ≡ front ++ g ∷ []) (pushed : new ≡ middle ++ h ∷ [])
    (first : left_of f ≡ tree h.expr.now ∷ left_of g) where
  pub falls : sum_by work new < sum_by work old
  falls =
      let a = ap (sum_by work) taken ∙ sum_by_push work front f in
      let b = ap (sum_by work) back ∙ sum_by_push work front g in
      let d = ap (sum_by work) pushed ∙ sum_by_push work middle h in
      let e = ap (sum_by weight) first ∙ sum_by-cons weight (tree h.expr.now) (left_of g) in
      let k = weight_chosen h.parts (parts_of (tree h.expr.now)) in
      let l = weight_parts (tree h.expr.now) in
      omega arith
