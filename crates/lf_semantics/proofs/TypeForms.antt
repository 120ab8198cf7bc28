-- The type that is read off the form of an expression is the type that it has.
use Rattle.std.proofs.Common.{◌≡◌, refl, sym, ◌∙◌, ap}
use Rattle.lf_ast.specs.Functions.{aggregation}
use Rattle.lf_ast.specs.Tree.{Tree, Number, Str, Selector, Subquery, Paren, Unary, Binary, Call, Aggregate}
use Rattle.lf_ast.specs.Types.{HasType, joined}
use Rattle.lf_ast.specs.declared.expr.Agg.{Agg}
use Rattle.lf_ast.specs.declared.expr.Agg.TheVariants.{Sum, Min, Max, Avg, Group, Stddev, Stdvar, Count, Quantile, CountValues, Topk, Bottomk}
use Rattle.lf_ast.specs.declared.expr.ExprType.{ExprType}
use Rattle.lf_ast.specs.declared.expr.ExprType.TheVariants.{Vector}
use Rattle.lf_semantics.specs.Parts.{given_by, type_by_form}

pub gives_vector : (op : Agg) → (aggregation op).gives ≡ Vector
gives_vector Sum = refl
gives_vector Min = refl
gives_vector Max = refl
gives_vector Avg = refl
gives_vector Group = refl
gives_vector Stddev = refl
gives_vector Stdvar = refl
gives_vector Count = refl
gives_vector Quantile = refl
gives_vector CountValues = refl
gives_vector Topk = refl
gives_vector Bottomk = refl

pub type_is_form : (e : Tree) (t : ExprType) → HasType e t → type_by_form e ≡ t
type_is_form (Number text span) t has = sym has
type_is_form (Str text span) t has = sym has
type_is_form (Selector name matchers sight span) t has = sym has.1
type_is_form (Subquery of sight span) t has = sym has.2
type_is_form (Paren of span) t has = type_is_form of t has
type_is_form (Unary minus of span) t has = type_is_form of t has.0
type_is_form (Binary op m left right span) t has =
    ap (λ l. joined l (type_by_form right)) (type_is_form left has.0 has.2) ∙ ap (joined has.0) (type_is_form right has.1 has.3) ∙ sym has.8
type_is_form (Call name args span) t has = ap given_by has.1 ∙ sym has.2.2
type_is_form (Aggregate op grouping args span) t has = sym (gives_vector op) ∙ sym has.2
