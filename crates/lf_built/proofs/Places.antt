-- The parts of an expression are found by their places among all parts in it.
use Rattle.std.proofs.Common.{inl, inr, ◌≡◌, ◌<◌, ◌≤◌, ℕ, zero, suc, ◌+◌, List, [], ◌∷◌, ◌++◌, drop, take, get_or, length, Some, refl, sym, ◌∙◌, ap, subst, append_assoc, arith, length-append, length-drop}
use Rattle.std.specs.Prelude.{slice_get}
use Rattle.std.specs.List.{flat_map, sum_by}
use Rattle.std.proofs.Math.Seq.{drop-append_seam}
use Rattle.std.proofs.lemmas.List.{append-nil, drop-drop, drop_all, get_or-drop}
use Rattle.std.proofs.lemmas.List.Sums.{sum_by-cons}
use Rattle.std.proofs.lemmas.Bool.{cases_lt}
use Rattle.lf_ast.specs.Tree.{Tree, Trees, Number, Str, Selector, Subquery, Paren, Unary, Binary, Call, Aggregate, Nil, Next, list, parts_of, nodes, nodes_in}
use Rattle.lf_built.specs.views.Places.{StandsFrom, size}

-- an expression comes before its parts, which come one behind the other

of_arguments : (args : Trees) → nodes_in args ≡ flat_map nodes (list args)
of_arguments Nil = refl
of_arguments (Next x xs) = ap (λ (ns : List Tree). nodes x ++ ns) (of_arguments xs)

pub of_parts : (e : Tree) → nodes e ≡ e ∷ flat_map nodes (parts_of e)
of_parts (Number text span) = refl
of_parts (Str text span) = refl
of_parts (Selector name matchers sight span) = refl
of_parts (Subquery of sight span) = ap (λ (ns : List Tree). Subquery of sight span ∷ ns) (sym (append-nil (nodes of)))
of_parts (Paren of span) = ap (λ (ns : List Tree). Paren of span ∷ ns) (sym (append-nil (nodes of)))
of_parts (Unary minus of span) = ap (λ (ns : List Tree). Unary minus of span ∷ ns) (sym (append-nil (nodes of)))
of_parts (Binary op m left right span) = ap (λ (ns : List Tree). Binary op m left right span ∷ (nodes left ++ ns)) (sym (append-nil (nodes right)))
of_parts (Call name args span) = ap (λ (ns : List Tree). Call name args span ∷ ns) (of_arguments args)
of_parts (Aggregate op grouping args span) = ap (λ (ns : List Tree). Aggregate op grouping args span ∷ ns) (of_arguments args)

-- all parts begin with the expression
pub at_first : (e : Tree) → StandsFrom (nodes e) 0 e
at_first e = ([], sym (append-nil (nodes e)))

-- how many parts there are

sizes_of : (parts : List Tree) → length (flat_map nodes parts) ≡ sum_by size parts
sizes_of [] = refl
sizes_of (x ∷ xs) = length-append (nodes x) (flat_map nodes xs) ∙ ap (λ n. size x + n) (sizes_of xs) ∙ sym (sum_by-cons size x xs)

pub size_is : (e : Tree) → size e ≡ suc (sum_by size (parts_of e))
size_is e = ap length (of_parts e) ∙ ap suc (sizes_of (parts_of e))

pub size_of_part : (parts : List Tree) (k : ℕ) (x : Tree) → slice_get parts k ≡ Some x → size x ≤ sum_by size parts
size_of_part [] k x e = absurd (cc)
size_of_part (y ∷ ys) zero x e = let same : size y ≡ size x = let f : y ≡ x = cc in ap size f in omega (arith, same, sum_by-cons size y ys)
size_of_part (y ∷ ys) (suc k) x e = omega (arith, size_of_part ys k x e, sum_by-cons size y ys)

module _ (all : List Tree) where
  -- what is behind one element
  after_one : (place : ℕ) (e : Tree) (more : List Tree) → drop place all ≡ e ∷ more → drop (place + 1) all ≡ more
  after_one place e more is = sym (drop-drop 1 place all) ∙ ap (drop 1) is

  -- it stands at its place
  begins : (place : ℕ) (e : Tree) (more : List Tree) → drop place all ≡ e ∷ more → (place < length all) × ((d : Tree) → get_or all place d ≡ e)
  begins place e more is = (
    elim (cases_lt place (length all)) [
      | inl less ↦ less
      | inr least ↦ absurd (let none : length (drop place all) ≡ 0 = ap length (drop_all place all least) in let some : length (drop place all) ≡ suc (length more) = ap length is in omega (arith, none, some))
    ],
    λ d. ap (λ k. get_or all k d) (let same : place ≡ place + 0 = omega arith in same) ∙ sym (get_or-drop place all 0 d) ∙ ap (λ xs. get_or xs 0 d) is,
  )

  pub stands_at : (place : ℕ) (e : Tree) → StandsFrom all place e → (place < length all) × ((d : Tree) → get_or all place d ≡ e)
  stands_at place e (behind, is) = begins place e (flat_map nodes (parts_of e) ++ behind) (is ∙ ap (λ xs. xs ++ behind) (of_parts e))

  -- there is room for all that is in it
  pub stands_within : (place : ℕ) (e : Tree) → StandsFrom all place e → place + size e ≤ length all
  stands_within place e (behind, is) =
      let less = (stands_at place e (behind, is)).0 in
      let a : length (drop place all) ≡ size e + length behind = ap length is ∙ length-append (nodes e) behind in
      omega (arith, less, a, length-drop place all)

  list_stands : (parts : List Tree) (k : ℕ) (x : Tree) (at : ℕ) (behind : List Tree) → drop at all ≡ flat_map nodes parts ++ behind → slice_get parts k ≡ Some x → StandsFrom all (at + sum_by size (take k parts)) x
  list_stands [] k x at behind is e = absurd (cc)
  list_stands (y ∷ ys) zero x at behind is e =
      let f : y ≡ x = cc in
      let same : at ≡ at + 0 = omega arith in
      subst (λ (n : ℕ). StandsFrom all n x) same (subst (λ (z : Tree). StandsFrom all at z) f (flat_map nodes ys ++ behind, is ∙ append_assoc (nodes y) (flat_map nodes ys) behind))
  list_stands (y ∷ ys) (suc k) x at behind is e =
      let next : drop (at + size y) all ≡ flat_map nodes ys ++ behind =
      sym (drop-drop (size y) at all) ∙ ap (drop (size y)) (is ∙ append_assoc (nodes y) (flat_map nodes ys) behind) ∙ drop-append_seam (nodes y) (flat_map nodes ys ++ behind) in
      let same : (at + size y) + sum_by size (take k ys) ≡ at + sum_by size (y ∷ take k ys) = omega (arith, sum_by-cons size y (take k ys)) in
      subst (λ (n : ℕ). StandsFrom all n x) same (list_stands ys k x (at + size y) behind next e)

  -- a part stands behind the expression and the parts before it
  pub part_stands : (place : ℕ) (e : Tree) (k : ℕ) (x : Tree) → StandsFrom all place e → slice_get (parts_of e) k ≡ Some x → StandsFrom all ((place + 1) + sum_by size (take k (parts_of e))) x
  part_stands place e k x (behind, is) at =
      list_stands (parts_of e) k x (place + 1) behind (after_one place e (flat_map nodes (parts_of e) ++ behind) (is ∙ ap (λ xs. xs ++ behind) (of_parts e))) at
