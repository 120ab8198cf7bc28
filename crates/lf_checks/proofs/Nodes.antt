-- What is told of each node of an expression that the walks list is told of each part.
use Rattle.std.proofs.Common.{◌≡◌, ◌≤◌, ℕ, List, length, take, sym, subst}
use Rattle.std.proofs.lemmas.List.{take_all}
use Rattle.std.specs.Borrow.{Bor}
use Rattle.std.specs.List.{Contains}
use Rattle.lf_laws.specs.Gaining.{OfSome}
use Rattle.lf_ast.specs.Tree.{Tree, nodes, tree}
use Rattle.lf_ast.specs.declared.expr.Expr.{Expr}
use Rattle.lf_ast.specs.declared.verdict.Finding.{Finding as Row}
use Rattle.lf_ast.specs.views.Walks.{trees_at}
use Rattle.lf_laws.proofs.Members.{in_map, map_member}
use Rattle.lf_checks.specs.Finding.{Finding}
use Rattle.lf_checks.specs.views.Adding.{Adds}
use Rattle.lf_checks.proofs.Added.{adds_as}

-- a loop over all nodes has told of each part
pub of_each : (is : Tree → Finding → Type 0) (items : List (Bor Expr)) (e : Tree) (i : ℕ) (old new : List Row) → trees_at items ≡ nodes e → length items ≤ i
    → Adds (OfSome (λ x. is (tree x.now)) (take i items)) old new → Adds (OfSome is (nodes e)) old new
of_each is items e i old new at end a = adds_as (OfSome (λ x. is (tree x.now)) items) (OfSome is (nodes e)) old new (subst (λ (l : List (Bor Expr)). Adds (OfSome (λ x. is (tree x.now)) l) old new) (take_all i items end) a) to from
  where
    to : (f : Finding) → OfSome (λ x. is (tree x.now)) items f → OfSome is (nodes e) f
    to f (x, c, h) = (tree x.now, subst (λ (l : List Tree). Contains l (tree x.now)) at (in_map (λ (b : Bor Expr). tree b.now) items x c), h)

    from : (f : Finding) → OfSome is (nodes e) f → OfSome (λ x. is (tree x.now)) items f
    from f (y, c, h) =
        let m = map_member (λ (b : Bor Expr). tree b.now) items y (subst (λ (l : List Tree). Contains l y) (sym at) c) in
        (m.0, m.1, subst (λ (t : Tree). is t f) m.2 h)
