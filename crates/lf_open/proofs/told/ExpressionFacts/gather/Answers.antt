use Rattle.std.proofs.Common.{ap, ◌∙◌, sym}
use Rattle.lf_open.specs.views.Told.{beside}
use Rattle.lf_open.proofs.ToldLaws.{gathered_push}
use Rattle.lf_open.proofs.told.ExpressionFacts.gather.Goals as goal

pub loop-part-preserved : goal.loop-part-preserved
loop-part-preserved c =
    c.in_ok-all.ensures ∙ ap (λ a. beside a c.in-Some.part) c.loop-part.invariant ∙ sym (gathered_push c.args.self c.loop-part.yielded c.in-Some.part)
