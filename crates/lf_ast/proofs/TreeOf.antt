-- The tree of each variant of the code's expressions. Those without arguments are so by computation: `tree (V.Paren of span)` is `Paren (tree of.value) span`.
use Rattle.std.proofs.Common.{arith, ◌≡◌, ◌≤◌, ◌<◌, ℕ, zero, suc, List, [], ◌∷◌, ◌++◌, get_or, length, refl, sym, ◌∙◌, ap}
use Rattle.lf_base.specs.declared.place.Span.{Span}
use Rattle.lf_ast.specs.Labels.{Bytes}
use Rattle.lf_ast.specs.Arguments.{text_at, text_of, texts_of}
use Rattle.lf_ast.specs.Tree.{Aggregate, Call, Next, count, row, tree, trees, with_last}
use Rattle.lf_ast.specs.declared.expr.Agg.{Agg}
use Rattle.lf_ast.specs.declared.expr.Expr as E
use Rattle.lf_ast.specs.declared.expr.Expr.{Expr}
use Rattle.lf_ast.specs.declared.expr.Expr.TheVariants as V
use Rattle.lf_ast.specs.declared.expr.Grouping.{Grouping}

row_items : {n : _} (args : E.Row_of-Expr n) → row args ≡ trees (E.items-the_row-Expr _ args)
row_items E.end_of-Expr = refl
row_items (E.more_of-Expr e rest) = ap (Next (tree e)) (row_items rest)

row_of : (args : List Expr) → row (E.TheBlock.hidden-the_row-Expr-0 args) ≡ trees args
row_of args = row_items (E.TheBlock.hidden-the_row-Expr-0 args) ∙ ap trees (E.items_hidden-the_row-Expr-0 args)

-- the arms of a match that have arguments

pub tree_call : (e : Expr) (name : Bytes) (args : List Expr) (span : Span) → e ≡ V.Call name args span → tree e ≡ Call name (trees args) span
tree_call e name args span is = ap tree is ∙ ap (λ xs. Call name xs span) (row_of args)

pub tree_aggregate : (e : Expr) (op : Agg) (grouping : Grouping) (args : List Expr) (span : Span) → e ≡ V.Aggregate op grouping args span → tree e ≡ Aggregate op grouping (trees args) span
tree_aggregate e op grouping args span is = ap tree is ∙ ap (λ xs. Aggregate op grouping xs span) (row_of args)

pub count_trees : (args : List Expr) → count (trees args) ≡ length args
count_trees [] = refl
count_trees (e ∷ es) = omega (arith, count_trees es)

-- one more argument
pub trees_last : (es : List Expr) (e : Expr) → trees (es ++ e ∷ []) ≡ with_last (trees es) (tree e)
trees_last [] e = refl
trees_last (x ∷ xs) e = ap (Next (tree x)) (trees_last xs e)

-- the texts of arguments

pub text_there : (args : List Expr) (k : ℕ) (e : Expr) → k < length args → e ≡ get_or args k e → text_at (texts_of (trees args)) k ≡ text_of (tree e)
text_there [] k e h is = absurd (omega arith)
text_there (x ∷ xs) zero e h is = ap (λ y. text_of (tree y)) (sym is)
text_there (x ∷ xs) (suc k) e h is = text_there xs k e (omega arith) is

pub text_missing : (args : List Expr) (k : ℕ) → length args ≤ k → text_at (texts_of (trees args)) k ≡ []
text_missing [] k h = refl
text_missing (x ∷ xs) zero h = absurd (omega arith)
text_missing (x ∷ xs) (suc k) h = text_missing xs k (omega arith)
