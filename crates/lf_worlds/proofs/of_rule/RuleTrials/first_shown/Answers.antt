use Rattle.std.proofs.Common.{subst}
use Rattle.std.specs.Prelude.{IfOk}
use Rattle.std.proofs.lemmas.Result.{IfOk-weaker}
use Rattle.lf_ast.specs.Rules.{rule_trees}
use Rattle.lf_trials.specs.Trials.{IsFirstShown, ShowsBuilt, ShowsUniform}
use Rattle.lf_candidates.specs.views.ClassTexts.{name_at}
use Rattle.lf_built.specs.views.Built.{OfRule}
use Rattle.lf_worlds.specs.views.Tried.{ShownFor}
use Rattle.lf_worlds.proofs.ShownTrials.{first_shows}
use Rattle.lf_worlds.proofs.of_rule.RuleTrials.first_shown.Goals as goal

pub returns-in-None-clause-shown : goal.returns-in-None-clause-shown
returns-in-None-clause-shown c =
    let v : OfRule = c.args.self.now in
    let none = subst (ShownFor (ShowsBuilt v.universe v.env (rule_trees v.rules) v.number (name_at v.universe c.args.label) c.args.presence)) c.in-None.is c.in_ok-world.ensures.shown in
    let uniform =
    subst (λ (w : OfRule). IfOk c.by_uniform.result (ShownFor (ShowsUniform w.universe w.env (rule_trees w.rules) w.number (name_at w.universe c.args.label) c.args.presence))) c.in_ok-world.ensures.same c.by_uniform.ensures.shown in
    IfOk-weaker c.by_uniform.result (ShownFor (ShowsUniform v.universe v.env (rule_trees v.rules) v.number (name_at v.universe c.args.label) c.args.presence))
    (ShownFor (IsFirstShown v.universe v.env (rule_trees v.rules) v.number (name_at v.universe c.args.label) c.args.presence))
    (λ o shows. first_shows v.universe v.env (rule_trees v.rules) v.number (name_at v.universe c.args.label) c.args.presence none o shows) uniform
