use Rattle.std.proofs.Common.{◌∙◌}
use Rattle.lf_yaml.specs.Flow.{is_bracket}
use Rattle.lf_yaml.specs.views.Shown.{shown}
use Rattle.lf_yaml.proofs.FlowCode.{fault-is}
use Rattle.lf_yaml.proofs.flow_scalar.sign_fault.Goals as goal

pub returns : goal.returns
returns c = c.first_fault.ensures ∙ fault-is (shown c.args.part).first c.is_bracket.result (is_bracket (shown c.args.part).first) c.fault_kind.result c.fault_kind.ensures (c.is_bracket.ensures c.args.part.at)
