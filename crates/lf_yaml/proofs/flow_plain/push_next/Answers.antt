use Rattle.lf_scalar.proofs.PlainCode.{front-gives}
use Rattle.lf_yaml.proofs.flow_plain.push_next.Goals as goal

pub returns-in-Ok-clause-text : goal.returns-in-Ok-clause-text
returns-in-Ok-clause-text c = λ b. front-gives _ _ _ _ _ _ c.in-Ok.ensures (c.push_line.ensures.text b)
