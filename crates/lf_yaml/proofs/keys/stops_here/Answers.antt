use Rattle.lf_yaml.proofs.keys.stops_here.Goals as goal

pub returns-then-flow : goal.returns-then-flow
returns-then-flow c = λ at. rw c.if-flow.true (c.is_flow_sign.ensures at)
