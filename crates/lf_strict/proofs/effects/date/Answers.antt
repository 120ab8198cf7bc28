use Rattle.std.proofs.Common.{◌<◌, List, [], ◌∷◌, Option, Result, length, arith}
use Rattle.std.specs.Prelude.{IfOk}
use Rattle.lf_ast.specs.Labels.{Labels}
use Rattle.lf_ast.specs.Tree.{trees}
use Rattle.lf_ast.specs.declared.expr.Expr.{Expr}
use Rattle.lf_semantics.specs.Evaluation.{LosesName}
use Rattle.lf_witness.specs.Strict.{From, MadeApart, Outcomes, StrictDate, StrictlyEvaluates}
use Rattle.lf_witness.specs.StrictRuns.{InOrder}
use Rattle.lf_strict.proofs.effects.date.Goals as goal

some_argument : {E : Type 0} (args : List Expr) (operand : Outcomes) (r : Result (Option (List Labels)) E) → 0 < length args → IfOk r (InOrder (From operand (MadeApart LosesName)))
    → IfOk r (InOrder (StrictDate (trees args) operand))
some_argument [] operand r h is = absurd (omega (arith, h))
some_argument (x ∷ args) operand r h is = is

pub returns : goal.returns
returns c = λ W e given. some_argument c.args.args.now (StrictlyEvaluates W e) c.operand_apart.result (omega (arith, c.in-len1-up.len_at_least)) (c.operand_apart.ensures W e given)
