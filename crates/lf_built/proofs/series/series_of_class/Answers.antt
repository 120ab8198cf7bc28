use Rattle.std.proofs.Common.{◌≡◌, subst}
use Rattle.std.specs.Prelude.{IfOk}
use Rattle.lf_ast.specs.Labels.{Bytes}
use Rattle.lf_trials.specs.Candidates.{labels_in}
use Rattle.lf_trials.specs.Given.{giving, label_set}
use Rattle.lf_candidates.specs.views.ClassTexts.{name_at, text_at}
use Rattle.lf_candidates.proofs.Labelled.{metric_first}
use Rattle.lf_built.proofs.SeriesNames.{has_first}
use Rattle.lf_built.proofs.series.series_of_class.Goals as goal

pub give-requires : goal.give-requires
give-requires c = has_first c.args.universe.now c.requires.universe c.args.texts c.requires.texts.0 c.requires.texts.1

pub label_set-requires-clause-given : goal.label_set-requires-clause-given
label_set-requires-clause-given c =
    let (D, stands) = c.requires.texts in
    let u = c.args.universe.now in
    (giving (name_at u 0) (text_at u 0 c.args.class) D, c.give.ensures u D c.requires.universe c.requires.class stands)

pub returns : goal.returns
returns c = λ D stands.
    let u = c.args.universe.now in
    subst (λ (name : Bytes). IfOk c.label_set.result (λ s. s ≡ label_set (labels_in u) (giving name (text_at u 0 c.args.class) D))) (metric_first u c.requires.universe)
    (c.label_set.ensures (giving (name_at u 0) (text_at u 0 c.args.class) D) (c.give.ensures u D c.requires.universe c.requires.class stands))
