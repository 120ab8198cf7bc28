use Rattle.std.proofs.Common.{◌≡◌, ℕ, None, false, ap, ◌∙◌, subst}
use Rattle.std.specs.Prelude.{IfOk, option_map}
use Rattle.std.proofs.lemmas.Result.{IfOk-weaker}
use Rattle.lf_ast.specs.Labels.{Bytes}
use Rattle.lf_ast.specs.Rules.{rule_trees}
use Rattle.lf_deps.proofs.RuleTrees.{trees_count}
use Rattle.lf_trials.specs.Built.{IsBuilt}
use Rattle.lf_trials.specs.Trials.{ShowsBuilt}
use Rattle.lf_candidates.specs.views.ClassTexts.{name_at}
use Rattle.lf_candidates.specs.views.Told.{AnswersFor}
use Rattle.lf_built.specs.views.Built.{OfRule}
use Rattle.lf_worlds.specs.declared.showing.Evaluated.{Evaluated}
use Rattle.lf_worlds.specs.views.Tried.{AreBelow, IsEvaluatedIf, ShownFor, first_with, world_with}
use Rattle.lf_worlds.proofs.SharedAbsence.{built_world, evaluated_is, nothing_shown}
use Rattle.lf_worlds.proofs.ShownTrials.{built_below}
use Rattle.lf_worlds.proofs.of_rule.RuleTrials.by_first.Goals as goal

pub evaluate_if-requires-clause-steps : goal.evaluate_if-requires-clause-steps
evaluate_if-requires-clause-steps c =
    let s = c.self.inside in
    let told = subst (λ (b : OfRule). AnswersFor (IsBuilt b.universe b.env (rule_trees b.rules) b.number (name_at b.universe c.args.label) false) c.in_ok-trial.trial) c.self.invariant.3 c.in_ok-trial.ensures in
    let below = built_below s.universe.now s.env.now (rule_trees s.rules.now) s.number (name_at s.universe.now c.args.label) false c.in_ok-trial.trial told in
    subst (λ (n : ℕ). AreBelow n c.in_ok-trial.trial) (trees_count s.rules.now) below

pub returns-in-Some-clause-shown : goal.returns-in-Some-clause-shown
returns-in-Some-clause-shown c =
    let s = c.self.inside in
    let name : Bytes = name_at s.universe.now c.args.label in
    let e : Evaluated = c.in-Some.made in
    let told = subst (λ (b : OfRule). AnswersFor (IsBuilt b.universe b.env (rule_trees b.rules) b.number (name_at b.universe c.args.label) false) c.in_ok-trial.trial) c.self.invariant.3 c.in_ok-trial.ensures in
    let is = evaluated_is s.universe.now s.env.now (rule_trees s.rules.now) s.number name false c.in_ok-trial.trial told e (subst (IsEvaluatedIf (rule_trees s.rules.now) s.number c.in_ok-trial.trial) c.in-Some.is c.in_ok-made.ensures) in
    subst (λ (v : OfRule). IfOk c.world-world.result (ShownFor (ShowsBuilt v.universe v.env (rule_trees v.rules) v.number (name_at v.universe c.args.label) false))) c.self.view_is
    (IfOk-weaker c.world-world.result (λ o. o ≡ option_map (world_with e.trial) (first_with c.as_str.result.now false e.samples)) (ShownFor (ShowsBuilt s.universe.now s.env.now (rule_trees s.rules.now) s.number name false))
    (λ o same. built_world s.universe.now s.env.now (rule_trees s.rules.now) s.number name false e is.0 is.1 o (same ∙ ap (λ (n : Bytes). option_map (world_with e.trial) (first_with n false e.samples)) (c.as_str.ensures ∙ c.name_of-name.ensures))) c.world-world.ensures)

pub returns-in-None-clause-shown : goal.returns-in-None-clause-shown
returns-in-None-clause-shown c =
    let s = c.self.inside in
    let told = subst (λ (b : OfRule). AnswersFor (IsBuilt b.universe b.env (rule_trees b.rules) b.number (name_at b.universe c.args.label) false) c.in_ok-trial.trial) c.self.invariant.3 c.in_ok-trial.ensures in
    subst (λ (v : OfRule). ShownFor (ShowsBuilt v.universe v.env (rule_trees v.rules) v.number (name_at v.universe c.args.label) false) None) c.self.view_is
    (nothing_shown s.universe.now s.env.now (rule_trees s.rules.now) s.number (name_at s.universe.now c.args.label) false c.in_ok-trial.trial told
    (subst (IsEvaluatedIf (rule_trees s.rules.now) s.number c.in_ok-trial.trial) c.in-None.is c.in_ok-made.ensures))
