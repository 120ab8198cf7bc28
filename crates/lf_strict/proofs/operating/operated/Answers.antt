use Rattle.std.proofs.Common.{◌≡◌, Bool, List, Option, Result, sym, subst}
use Rattle.std.specs.Prelude.{IfOk}
use Rattle.lf_ast.specs.Labels.{Labels}
use Rattle.lf_ast.specs.declared.expr.Matching.{Matching}
use Rattle.lf_ast.specs.declared.expr.Op.{Op}
use Rattle.lf_witness.specs.Strict.{Outcomes, StrictBesideScalar, StrictBinary, StrictlyEvaluates}
use Rattle.lf_witness.specs.StrictRuns.{InOrder}
use Rattle.lf_strict.proofs.operating.operated.Goals as goal

by_sides : {E : Type 0} {x y u v : Bool} (op : Op) (m : Matching) (left right : Outcomes) (r : Result (Option (List Labels)) E) → x ≡ u → y ≡ v → IfOk r (InOrder (StrictBinary op m u v left right))
    → IfOk r (InOrder (StrictBinary op m x y left right))
by_sides {y = y} {u = u} op m left right r a b given =
    subst (λ (z : Bool). IfOk r (InOrder (StrictBinary op m z y left right))) (sym a) (subst (λ (z : Bool). IfOk r (InOrder (StrictBinary op m u z left right))) (sym b) given)

pub returns-then-is_left_scalar : goal.returns-then-is_left_scalar
returns-then-is_left_scalar c = λ W d e left right.
    by_sides c.args.op c.args.matching.now (StrictlyEvaluates W d) (StrictlyEvaluates W e) c.beside_scalar.result c.if-is_left_scalar.true c.if-is_right_scalar.false
    (subst (λ (filters : Bool). IfOk c.beside_scalar.result (InOrder (StrictBesideScalar filters (StrictlyEvaluates W e)))) c.is_filter.ensures (c.beside_scalar.ensures W e right))

pub returns-then-is_right_scalar-2 : goal.returns-then-is_right_scalar-2
returns-then-is_right_scalar-2 c = λ W d e left right.
    let beside = c.beside_scalar-then-is_right_scalar-2 in
    by_sides c.args.op c.args.matching.now (StrictlyEvaluates W d) (StrictlyEvaluates W e) beside.result c.if-is_left_scalar.false c.if-is_right_scalar-2.true
    (subst (λ (filters : Bool). IfOk beside.result (InOrder (StrictBesideScalar filters (StrictlyEvaluates W d)))) c.is_filter-then-is_right_scalar-2.ensures (beside.ensures W d left))

pub returns : goal.returns
returns c = λ W d e left right.
    by_sides c.args.op c.args.matching.now (StrictlyEvaluates W d) (StrictlyEvaluates W e) c.combine.result c.if-is_left_scalar.false c.if-is_right_scalar-2.false (c.combine.ensures W d e left right)
