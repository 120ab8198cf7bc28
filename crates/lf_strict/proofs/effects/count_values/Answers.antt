use Rattle.std.proofs.Common.{◌∙◌, subst}
use Rattle.std.specs.Prelude.{IfOk}
use Rattle.lf_ast.specs.Labels.{Bytes}
use Rattle.lf_witness.specs.Strict.{From, IsCountedAsOne, MadeTogether, StrictlyEvaluates}
use Rattle.lf_witness.specs.StrictRuns.{InOrder}
use Rattle.lf_strict.proofs.effects.count_values.Goals as goal

pub returns : goal.returns
returns c = λ W e given.
    let P : Bytes → Type 0 = λ label. IfOk c.operand_together.result (InOrder (From (StrictlyEvaluates W e) (MadeTogether (IsCountedAsOne c.args.grouping.now label)))) in
    subst P (c.in_ok-label.ensures ∙ c.text_at.ensures) (c.operand_together.ensures W e given)
