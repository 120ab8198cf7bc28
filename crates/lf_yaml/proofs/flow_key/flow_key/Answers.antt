use Rattle.std.proofs.Common.{Option, subst}
use Rattle.lf_scalar.specs.declared.quotes.Quotes.{Quotes}
use Rattle.lf_base.specs.Answers.{AnswersAs}
use Rattle.lf_yaml.specs.reading.Trees.{flow_key, flow_key_by}
use Rattle.lf_yaml.specs.views.Places.{signed}
use Rattle.lf_yaml.specs.views.Shown.{shown}
use Rattle.lf_yaml.proofs.flow_key.flow_key.Goals as goal

pub returns-in-None-clause-gives : goal.returns-in-None-clause-gives
unfolding flow_key
returns-in-None-clause-gives c =
    subst (λ (o : Option Quotes). AnswersAs (signed c.args.part) c.bare_key.result (flow_key_by c.args.source.bytes.now (shown c.args.part).first (shown c.args.part).rest o))
    (c.in-None.ensures.kind c.args.part.at) c.bare_key.ensures.gives
