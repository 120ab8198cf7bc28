use Rattle.std.proofs.Common.{◌∙◌}
use Rattle.lf_semantics.specs.RowTable.{is_group_label}
use Rattle.lf_flow.proofs.Sides.{others_dropped}
use Rattle.lf_flow.proofs.grouping.group.Goals as goal

pub returns : goal.returns
returns c =
    c.drop_others-2.ensures
    ∙ others_dropped c.args.universe.now c.args.row.now c.requires.shape (is_group_label c.args.universe.now c.args.grouping.now) _ c.in_ok-group_labels.ensures
