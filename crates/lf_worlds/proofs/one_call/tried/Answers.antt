use Rattle.std.proofs.Common.{◌≡◌, Some, sym, subst, slice_get}
use Rattle.std.specs.Prelude.{IfOk}
use Rattle.lf_ast.specs.Rules.{rule_trees}
use Rattle.lf_semantics.specs.Laws.{SetNoNames}
use Rattle.lf_trials.specs.Verdicts.{IsRuleVerdict}
use Rattle.lf_worlds.specs.Unresolved.{AreTyped, IsOpenIfUnresolved}
use Rattle.lf_worlds.specs.views.Told.{rule_verdict}
use Rattle.lf_worlds.specs.views.Tried.{Tried}
use Rattle.lf_worlds.proofs.one_call.tried.Goals as goal

pub returns-clause-verdict : goal.returns-clause-verdict
returns-clause-verdict c = λ r at.
    subst (λ (v : Tried). IfOk c.rule.result (λ told. IsRuleVerdict v.universe v.env (rule_trees v.rules) c.args.i r (rule_verdict told))) c.in_ok-trials.ensures
    (c.rule.ensures.verdict r (subst (λ (v : Tried). slice_get (rule_trees v.rules) c.args.i ≡ Some r) (sym c.in_ok-trials.ensures) at))

pub returns-clause-unresolved : goal.returns-clause-unresolved
returns-clause-unresolved c = λ typed unnamed.
    subst (λ (v : Tried). IfOk c.rule.result (λ told. IsOpenIfUnresolved (rule_trees v.rules) c.args.i (rule_verdict told))) c.in_ok-trials.ensures
    (c.rule.ensures.unresolved (subst (λ (v : Tried). AreTyped (rule_trees v.rules)) (sym c.in_ok-trials.ensures) typed) (subst (λ (v : Tried). SetNoNames (rule_trees v.rules)) (sym c.in_ok-trials.ensures) unnamed))
