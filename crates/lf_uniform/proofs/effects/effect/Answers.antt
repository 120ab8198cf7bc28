use Rattle.std.proofs.Common.{sym, ◌∙◌, ap}
use Rattle.lf_ast.specs.Tree.{trees}
use Rattle.lf_ast.specs.declared.functions.LabelEffect.{LabelEffect}
use Rattle.lf_trials.specs.Follow.{follow_effect}
use Rattle.lf_uniform.proofs.effects.effect.Goals as goal

pub returns-in-Date : goal.returns-in-Date
returns-in-Date c =
    c.dated.ensures c.args.grouping.now ∙ ap (λ (e : LabelEffect). follow_effect c.args.label.now e c.args.grouping.now (trees c.args.args.now) c.args.operand) (sym c.in-Date.is)
