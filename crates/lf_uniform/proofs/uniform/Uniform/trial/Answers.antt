use Rattle.std.proofs.Common.{List, None, Option, subst}
use Rattle.std.specs.Prelude.{IfOk}
use Rattle.lf_ast.specs.Rules.{RuleTree, rule_trees}
use Rattle.lf_candidates.specs.views.ClassTexts.{name_at}
use Rattle.lf_candidates.specs.views.Told.{AnswersFor}
use Rattle.lf_trials.specs.Uniform.{IsUniform}
use Rattle.lf_uniform.specs.declared.uniform.Shared.{Shared}
use Rattle.lf_uniform.specs.views.Worlds.{ArePrepared, Uniform}
use Rattle.lf_uniform.proofs.UniformWorlds.{none_shared}
use Rattle.lf_uniform.proofs.uniform.Uniform.trial.Goals as goal

pub returns-in-Some : goal.returns-in-Some
returns-in-Some c =
    subst (λ (w : Uniform). IfOk c.tried.result (AnswersFor (IsUniform w.universe (rule_trees w.rules) w.number (name_at w.universe c.args.label) c.args.presence))) c.self.view_is c.tried.ensures

pub returns-in-None : goal.returns-in-None
returns-in-None c =
    let u = c.self.inside.setting.universe in
    let rules : List RuleTree = rule_trees c.self.inside.setting.rules in
    let i = c.self.inside.number in
    let given = subst (λ (s : Option Shared). ArePrepared u rules i c.self.inside.reach.now s) c.in-None.is c.self.invariant in
    subst (λ (w : Uniform). AnswersFor (IsUniform w.universe (rule_trees w.rules) w.number (name_at w.universe c.args.label) c.args.presence) None) c.self.view_is
    (none_shared u rules i (name_at u c.args.label) c.args.presence given.own given.at c.self.inside.reach.now given.is_reach given.is_shared)
