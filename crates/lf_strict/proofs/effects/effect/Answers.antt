use Rattle.std.proofs.Common.{List, Option, Result, subst, sym, ◌≡◌}
use Rattle.std.specs.Prelude.{IfOk}
use Rattle.lf_ast.specs.Labels.{Labels}
use Rattle.lf_ast.specs.Tree.{Trees, trees}
use Rattle.lf_ast.specs.declared.expr.Grouping.{Grouping}
use Rattle.lf_ast.specs.declared.functions.LabelEffect.{LabelEffect}
use Rattle.lf_witness.specs.Strict.{Outcomes, StrictEffect, StrictlyEvaluates}
use Rattle.lf_witness.specs.StrictRuns.{InOrder}
use Rattle.lf_strict.proofs.effects.effect.Goals as goal

by_effect : {E : Type 0} {x y : LabelEffect} (grouping : Grouping) (args : Trees) (operand : Outcomes) (r : Result (Option (List Labels)) E) → x ≡ y → IfOk r (InOrder (StrictEffect y grouping args operand))
    → IfOk r (InOrder (StrictEffect x grouping args operand))
by_effect grouping args operand r is given = subst (λ (z : LabelEffect). IfOk r (InOrder (StrictEffect z grouping args operand))) (sym is) given

pub returns-in-Maps : goal.returns-in-Maps
returns-in-Maps c = λ W e given. by_effect c.args.grouping.now (trees c.args.args.now) (StrictlyEvaluates W e) c.operand_apart.result c.in-Maps.is (c.operand_apart.ensures W e given)

pub returns-in-Groups : goal.returns-in-Groups
returns-in-Groups c = λ W e given. by_effect c.args.grouping.now (trees c.args.args.now) (StrictlyEvaluates W e) c.operand_together.result c.in-Groups.is (c.operand_together.ensures W e given)

pub returns-in-CountValues : goal.returns-in-CountValues
returns-in-CountValues c = λ W e given. by_effect c.args.grouping.now (trees c.args.args.now) (StrictlyEvaluates W e) c.count_values.result c.in-CountValues.is (c.count_values.ensures W e given)

pub returns-in-Date : goal.returns-in-Date
returns-in-Date c = λ W e given. by_effect c.args.grouping.now (trees c.args.args.now) (StrictlyEvaluates W e) c.date.result c.in-Date.is (c.date.ensures W e given)

pub returns-in-Absent : goal.returns-in-Absent
returns-in-Absent c = λ W e given. by_effect c.args.grouping.now (trees c.args.args.now) (StrictlyEvaluates W e) c.absent.result c.in-Absent.is (c.absent.ensures W e given)

pub returns-in-LabelReplace : goal.returns-in-LabelReplace
returns-in-LabelReplace c = λ W e given. by_effect c.args.grouping.now (trees c.args.args.now) (StrictlyEvaluates W e) c.replaced.result c.in-LabelReplace.is (c.replaced.ensures W e given)

pub returns-in-LabelJoin : goal.returns-in-LabelJoin
returns-in-LabelJoin c = λ W e given. by_effect c.args.grouping.now (trees c.args.args.now) (StrictlyEvaluates W e) c.operand_apart-in-LabelJoin.result c.in-LabelJoin.is (c.operand_apart-in-LabelJoin.ensures W e given)

pub returns-in-HistogramQuantile : goal.returns-in-HistogramQuantile
returns-in-HistogramQuantile c = λ W e given. by_effect c.args.grouping.now (trees c.args.args.now) (StrictlyEvaluates W e) c.quantile.result c.in-HistogramQuantile.is (c.quantile.ensures W e given)
