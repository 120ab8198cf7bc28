use Rattle.std.proofs.Common.{◌≡◌, List, Some, subst, slice_get}
use Rattle.std.specs.List.{Contains}
use Rattle.lf_ast.specs.Rules.{RuleTree, rule_tree, rule_trees}
use Rattle.lf_deps.proofs.RuleTrees.{tree_at}
use Rattle.std.specs.Prelude.{IfOk}
use Rattle.std.proofs.lemmas.Result.{IfOk-weaker}
use Rattle.lf_strict.specs.Steps.{IsAnswerAfter}
use Rattle.lf_witness.specs.StrictRuns.{rules_at}
use Rattle.lf_trials.specs.Reached.{Trial}
use Rattle.lf_worlds.specs.views.Tried.{AreSamplesOf}
use Rattle.lf_worlds.proofs.ShownTrials.{samples_after}
use Rattle.lf_worlds.proofs.showing.samples_of.Goals as goal

pub strict_after-requires : goal.strict_after-requires
strict_after-requires c = λ k there. c.requires.steps k (subst (λ (t : Trial). Contains t.steps k) c.trial.view_is there)

pub returns : goal.returns
returns c =
    let trees : List RuleTree = rule_trees c.args.rules.now in
    let r : RuleTree = rule_tree c.get-rule.result.now in
    let at : slice_get trees c.args.i ≡ Some r = tree_at c.args.rules.now c.args.i c.get-rule.result.now c.get-rule.ensures.value in
    let inner : Trial = record { series = c.trial.inside.series; steps = c.trial.inside.steps } in
    let answers : IfOk c.strict_after.result (IsAnswerAfter c.args.trial.now.series (rules_at trees c.args.trial.now.steps) r.expr) =
    subst (λ (t : Trial). IfOk c.strict_after.result (IsAnswerAfter t.series (rules_at trees t.steps) r.expr)) c.trial.view_is c.strict_after.ensures in
    IfOk-weaker c.strict_after.result (IsAnswerAfter c.args.trial.now.series (rules_at trees c.args.trial.now.steps) r.expr) (AreSamplesOf trees c.args.i c.args.trial.now)
    (samples_after trees c.args.i r at (c.requires.evaluated r at) c.args.trial.now) answers
