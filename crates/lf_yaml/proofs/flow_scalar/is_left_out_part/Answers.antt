use Rattle.lf_yaml.specs.Flow.{is_bracket, is_flow_property}
use Rattle.lf_yaml.specs.views.Shown.{shown}
use Rattle.lf_yaml.proofs.FlowCode.{or-first, or-second}
use Rattle.lf_yaml.proofs.flow_scalar.is_left_out_part.Goals as goal

pub returns-then-is_bracket : goal.returns-then-is_bracket
returns-then-is_bracket c = or-first c.is_bracket.result (is_bracket (shown c.args.part).first) (is_flow_property (shown c.args.part).first (shown c.args.part).rest) (c.is_bracket.ensures c.args.part.at) c.if-is_bracket.true

pub returns-else-is_bracket : goal.returns-else-is_bracket
returns-else-is_bracket c =
    or-second c.is_bracket.result c.is_flow_property.result (is_bracket (shown c.args.part).first) (is_flow_property (shown c.args.part).first (shown c.args.part).rest) (c.is_bracket.ensures c.args.part.at) c.if-is_bracket.false (c.is_flow_property.ensures c.args.part.at)
