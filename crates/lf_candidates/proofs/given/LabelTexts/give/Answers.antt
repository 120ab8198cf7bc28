use Rattle.std.proofs.Common.{sym, subst}
use Rattle.lf_trials.specs.Given.{giving}
use Rattle.lf_candidates.specs.views.ClassTexts.{Stands, name_at, text_at}
use Rattle.lf_candidates.proofs.Standing.{gives}
use Rattle.lf_candidates.proofs.given.LabelTexts.give.Goals as goal

pub returns : goal.returns
returns c = λ u D within is stands.
    subst (λ classes. Stands u classes (giving (name_at u c.args.label) (text_at u c.args.label c.args.class) D)) (sym c.put.ensures) (gives u within D c.args.self.now c.args.label c.args.class c.requires is stands)
