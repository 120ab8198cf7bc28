-- The texts of arguments, by the list of arguments that the code has.
use Rattle.std.proofs.Common.{◌≡◌, ℕ, zero, suc, List, [], ◌∷◌, drop, length, refl, ap}
use Rattle.lf_ast.specs.Arguments.{texts_of}
use Rattle.lf_ast.specs.Tree.{trees}
use Rattle.lf_ast.specs.declared.expr.Expr.{Expr}

pub length_texts : (args : List Expr) → length (texts_of (trees args)) ≡ length args
length_texts [] = refl
length_texts (e ∷ args) = ap suc (length_texts args)

-- the texts of the arguments behind the first ones
pub texts_behind : (n : ℕ) (args : List Expr) → texts_of (trees (drop n args)) ≡ drop n (texts_of (trees args))
texts_behind zero args = refl
texts_behind (suc n) [] = refl
texts_behind (suc n) (e ∷ args) = texts_behind n args
