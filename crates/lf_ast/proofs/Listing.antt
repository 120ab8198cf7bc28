-- What a list of the parts of an expression lacks.
use Rattle.std.proofs.Common.{◌≡◌, List, [], ◌∷◌, ◌++◌, reverse, refl, ap, sym, ◌∙◌, append-nil}
use Rattle.std.specs.Borrow.{Bor}
use Rattle.std.proofs.lemmas.List.{append_assoc, map-append, reverse-append}
use Rattle.lf_ast.specs.Tree.{Tree, Trees, Number, Str, Selector, Subquery, Paren, Unary, Binary, Call, Aggregate, Nil, Next, list, parts_of, tree, nodes, nodes_in}
use Rattle.lf_ast.specs.declared.expr.Expr.{Expr}
use Rattle.lf_ast.specs.declared.walk.choosing.Frame.{Frame}
use Rattle.lf_ast.specs.views.Walks.{trees_at}
use Rattle.lf_ast.proofs.Walks.{left_of}

-- the parts of these expressions and all in them
abbrev pub nodes_all : List Tree → List Tree
nodes_all [] = []
nodes_all (x ∷ xs) = nodes x ++ nodes_all xs

-- what is still to be found, the last frame first
abbrev pub to_find : {M N : Type 0} → List (Frame M N) → List Tree
to_find [] = []
to_find (f ∷ fs) = nodes_all (left_of f) ++ to_find fs

nodes_list : (args : Trees) → nodes_in args ≡ nodes_all (list args)
nodes_list Nil = refl
nodes_list (Next x xs) = ap (λ ys. nodes x ++ ys) (nodes_list xs)

pub nodes_parts : (x : Tree) → nodes x ≡ x ∷ nodes_all (parts_of x)
nodes_parts (Number text span) = refl
nodes_parts (Str text span) = refl
nodes_parts (Selector name matchers sight span) = refl
nodes_parts (Subquery of sight span) = ap (λ ys. Subquery of sight span ∷ ys) (sym (append-nil (nodes of)))
nodes_parts (Paren of span) = ap (λ ys. Paren of span ∷ ys) (sym (append-nil (nodes of)))
nodes_parts (Unary minus of span) = ap (λ ys. Unary minus of span ∷ ys) (sym (append-nil (nodes of)))
nodes_parts (Binary op m left right span) = ap (λ ys. Binary op m left right span ∷ (nodes left ++ ys)) (sym (append-nil (nodes right)))
nodes_parts (Call name args span) = ap (λ ys. Call name args span ∷ ys) (nodes_list args)
nodes_parts (Aggregate op grouping args span) = ap (λ ys. Aggregate op grouping args span ∷ ys) (nodes_list args)

-- nothing but the whole is found
pub starts : (x : Tree) → x ∷ (nodes_all (parts_of x) ++ []) ≡ nodes x
starts x = ap (λ ys. x ∷ ys) (append-nil (nodes_all (parts_of x))) ∙ sym (nodes_parts x)

-- a part is found, and gone into
module _ {M N : Type 0} (old front middle new : List (Frame M N)) (f g h : Frame M N) (taken : old ≡ front ++ f ∷ []) (back : middle ≡ front ++ g ∷ []) (pushed : new ≡ middle ++ h ∷ [])
    (first : left_of f ≡ tree h.expr.now ∷ left_of g) (all : left_of h ≡ parts_of (tree h.expr.now)) (found after : List (Bor Expr)) (listed : after ≡ found ++ h.expr ∷ []) where
  abbrev part : Tree
  part = tree h.expr.now

  abbrev others : List Tree
  others = nodes_all (left_of g) ++ to_find (reverse front)

  to_find_old : to_find (reverse old) ≡ part ∷ (nodes_all (left_of h) ++ others)
  to_find_old =
      ap (λ fs. to_find (reverse fs)) taken ∙ ap to_find (reverse-append front (f ∷ [])) ∙ ap (λ xs. nodes_all xs ++ to_find (reverse front)) first
      ∙ append_assoc (nodes part) (nodes_all (left_of g)) (to_find (reverse front)) ∙ ap (λ ys. ys ++ others) (nodes_parts part) ∙ ap (λ xs. part ∷ (nodes_all xs ++ others)) (sym all)

  to_find_new : to_find (reverse new) ≡ nodes_all (left_of h) ++ others
  to_find_new = ap (λ fs. to_find (reverse fs)) pushed ∙ ap to_find (reverse-append middle (h ∷ [])) ∙ ap (λ fs. nodes_all (left_of h) ++ to_find (reverse fs)) back
      ∙ ap (λ fs. nodes_all (left_of h) ++ to_find fs) (reverse-append front (g ∷ []))

  pub finds : trees_at after ++ to_find (reverse new) ≡ trees_at found ++ to_find (reverse old)
  finds =
      ap (λ es. trees_at es ++ to_find (reverse new)) listed ∙ ap (λ ys. ys ++ to_find (reverse new)) (map-append (λ e. tree e.now) found (h.expr ∷ []))
      ∙ append_assoc (trees_at found) (part ∷ []) (to_find (reverse new)) ∙ ap (λ ys. trees_at found ++ part ∷ ys) to_find_new ∙ ap (λ ys. trees_at found ++ ys) (sym to_find_old)
