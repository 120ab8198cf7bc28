-- The arguments of a call by their places.
use Rattle.std.proofs.Common.{arith, ◌≡◌, ◌≤◌, ◌<◌, ℕ, zero, suc, List, [], ◌∷◌, get_or, length, Some, None, refl, sym, ap}
use Rattle.lf_ast.specs.Tree.{tree, trees}
use Rattle.lf_ast.specs.declared.expr.Expr.{Expr}
use Rattle.lf_semantics.specs.Parts.{argument_at}

pub argument_there : (args : List Expr) (k : ℕ) (e : Expr) → k < length args → e ≡ get_or args k e → argument_at (trees args) k ≡ Some (tree e)
argument_there [] k e h is = absurd (omega arith)
argument_there (x ∷ xs) zero e h is = ap (λ y. Some (tree y)) (sym is)
argument_there (x ∷ xs) (suc k) e h is = argument_there xs k e (omega arith) is

pub argument_missing : (args : List Expr) (k : ℕ) → length args ≤ k → argument_at (trees args) k ≡ None
argument_missing [] k h = refl
argument_missing (x ∷ xs) zero h = absurd (omega arith)
argument_missing (x ∷ xs) (suc k) h = argument_missing xs k (omega arith)
