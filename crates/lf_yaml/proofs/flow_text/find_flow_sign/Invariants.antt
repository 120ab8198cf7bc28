use Rattle.lf_yaml.proofs.FlowText.{NoSigns}
use Rattle.lf_yaml.proofs.flow_text.find_flow_sign.Given as goal

abbrev pub invariant-loop-i : goal.invariant-loop-i
invariant-loop-i l = NoSigns l.text l.i
