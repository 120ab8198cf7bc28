use Rattle.std.proofs.Common.{◌<◌, length, sym, subst}
use Rattle.std.specs.Prelude.{IfOk}
use Rattle.lf_ast.specs.Rules.{rule_trees}
use Rattle.lf_trials.specs.Uniform.{IsUniform}
use Rattle.lf_candidates.specs.views.ClassTexts.{name_at}
use Rattle.lf_candidates.specs.views.Told.{AnswersFor}
use Rattle.lf_uniform.specs.views.Worlds.{Uniform}
use Rattle.lf_worlds.proofs.at_need.UniformAtNeed.trial.Goals as goal

pub trial-trial-requires : goal.trial-trial-requires
trial-trial-requires c = subst (λ (v : Uniform). c.args.label < length v.universe.named) (sym c.in_ok-uniform.ensures.uniform) c.requires

pub returns-clause-answer : goal.returns-clause-answer
returns-clause-answer c =
    subst (λ (v : Uniform). IfOk c.trial-trial.result (AnswersFor (IsUniform v.universe (rule_trees v.rules) v.number (name_at v.universe c.args.label) c.args.presence))) c.in_ok-uniform.ensures.uniform c.trial-trial.ensures
