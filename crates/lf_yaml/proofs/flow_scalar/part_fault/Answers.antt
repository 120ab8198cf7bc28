use Rattle.std.proofs.Common.{◌∙◌, ◌||◌}
use Rattle.lf_yaml.specs.Flow.{is_bracket, is_flow_property}
use Rattle.lf_yaml.specs.views.Shown.{shown}
use Rattle.lf_yaml.proofs.FlowCode.{fault-is}
use Rattle.lf_yaml.proofs.flow_scalar.part_fault.Goals as goal

pub returns : goal.returns
returns c =
    c.first_fault.ensures
    ∙ fault-is (shown c.args.part).first c.is_left_out_part.result (is_bracket (shown c.args.part).first || is_flow_property (shown c.args.part).first (shown c.args.part).rest) c.fault_kind.result c.fault_kind.ensures c.is_left_out_part.ensures
