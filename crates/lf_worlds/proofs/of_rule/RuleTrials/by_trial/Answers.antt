use Rattle.std.proofs.Common.{ℕ, subst}
use Rattle.std.specs.Prelude.{IfOk}
use Rattle.std.proofs.lemmas.Result.{IfOk-weaker}
use Rattle.lf_ast.specs.Labels.{Bytes}
use Rattle.lf_ast.specs.Rules.{rule_trees}
use Rattle.lf_deps.proofs.RuleTrees.{trees_count}
use Rattle.lf_trials.specs.Built.{IsBuilt}
use Rattle.lf_trials.specs.Trials.{ShowsBuilt}
use Rattle.lf_candidates.specs.views.ClassTexts.{name_at}
use Rattle.lf_candidates.specs.views.Told.{AnswersFor}
use Rattle.lf_built.specs.views.Built.{OfRule}
use Rattle.lf_worlds.specs.views.Tried.{AreBelow, IsWorldIfShown, ShownFor}
use Rattle.lf_worlds.proofs.ShownTrials.{built_below, built_if_shown}
use Rattle.lf_worlds.proofs.of_rule.RuleTrials.by_trial.Goals as goal

pub world_if_shown-requires-clause-steps : goal.world_if_shown-requires-clause-steps
world_if_shown-requires-clause-steps c =
    let label = c.args.label in
    let presence = c.args.presence in
    let told = subst (λ (b : OfRule). AnswersFor (IsBuilt b.universe b.env (rule_trees b.rules) b.number (name_at b.universe label) presence) c.in_ok-trial.trial) c.self.invariant.3 c.in_ok-trial.ensures in
    let below = built_below c.self.inside.universe.now c.self.inside.env.now (rule_trees c.self.inside.rules.now) c.self.inside.number (name_at c.self.inside.universe.now label) presence c.in_ok-trial.trial told in
    subst (λ (n : ℕ). AreBelow n c.in_ok-trial.trial) (trees_count c.self.inside.rules.now) below

pub returns : goal.returns
returns c =
    let label = c.args.label in
    let presence = c.args.presence in
    let told = subst (λ (b : OfRule). AnswersFor (IsBuilt b.universe b.env (rule_trees b.rules) b.number (name_at b.universe label) presence) c.in_ok-trial.trial) c.self.invariant.3 c.in_ok-trial.ensures in
    let named = subst (λ (n : Bytes). IfOk c.world_if_shown.result (IsWorldIfShown (rule_trees c.self.inside.rules.now) c.self.inside.number n presence c.in_ok-trial.trial)) c.name_of.ensures c.world_if_shown.ensures in
    subst (λ (v : OfRule). IfOk c.world_if_shown.result (ShownFor (ShowsBuilt v.universe v.env (rule_trees v.rules) v.number (name_at v.universe label) presence))) c.self.view_is
    (IfOk-weaker c.world_if_shown.result (IsWorldIfShown (rule_trees c.self.inside.rules.now) c.self.inside.number (name_at c.self.inside.universe.now label) presence c.in_ok-trial.trial)
    (ShownFor (ShowsBuilt c.self.inside.universe.now c.self.inside.env.now (rule_trees c.self.inside.rules.now) c.self.inside.number (name_at c.self.inside.universe.now label) presence))
    (λ o is. built_if_shown c.self.inside.universe.now c.self.inside.env.now (rule_trees c.self.inside.rules.now) c.self.inside.number (name_at c.self.inside.universe.now label) presence c.in_ok-trial.trial told o is) named)
