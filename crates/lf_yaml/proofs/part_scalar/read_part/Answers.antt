use Rattle.std.proofs.Common.{Option, subst}
use Rattle.lf_scalar.specs.declared.quotes.Quotes.{Quotes}
use Rattle.lf_base.specs.Answers.{AnswersAs}
use Rattle.lf_scalar.specs.Scalars.{value as scalar_value}
use Rattle.lf_yaml.specs.reading.Trees.{part_by}
use Rattle.lf_yaml.specs.views.Shown.{shown}
use Rattle.lf_yaml.proofs.part_scalar.read_part.Goals as goal

pub returns-in-None-clause-gives : goal.returns-in-None-clause-gives
unfolding Rattle.lf_yaml.specs.reading.Trees.flow_scalar
returns-in-None-clause-gives c =
    subst (λ (o : Option Quotes). AnswersAs (λ x. (scalar_value x.0, x.1.at)) c.plain_part.result (part_by c.args.source.bytes.now (shown c.args.part).first (shown c.args.part).rest o)) (c.in-None.ensures.kind c.args.part.at) c.plain_part.ensures.gives
