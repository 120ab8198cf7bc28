use Rattle.lf_yaml.proofs.Cuts.{quote-cut}
use Rattle.lf_yaml.proofs.flow_key.quoted_scalar_on.Goals as goal

pub returns-in-Ok-clause-cut : goal.returns-in-Ok-clause-cut
returns-in-Ok-clause-cut c = λ utf8. quote-cut c.args.quote c.args.part.text.now c.past-inside.result.now c.in-Some.closing c.past-inside.ensures c.in-Some.ensures.within c.in-Some.ensures.quote utf8
