use Rattle.std.proofs.Common.{◌∙◌}
use Rattle.lf_semantics.specs.RowTable.{signs_label}
use Rattle.lf_flow.proofs.Sides.{side_met}
use Rattle.lf_flow.proofs.matching.meet_sides.Goals as goal

pub returns : goal.returns
returns c =
    c.match_side.ensures
    ∙ side_met c.args.universe.now c.args.left c.requires.left (signs_label c.args.universe.now c.args.matching.now) _ c.in_ok-signature.ensures c.args.right.now
