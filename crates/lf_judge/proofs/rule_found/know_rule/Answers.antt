use Rattle.std.proofs.Common.{◌≡◌, ◌<◌, Some, length, subst, sym}
use Rattle.std.specs.Prelude.{slice_get}
use Rattle.lf_ast.specs.Rules.{rule_trees}
use Rattle.lf_trials.specs.Verdicts.{IsRuleVerdict}
use Rattle.lf_worlds.specs.views.Told.{rule_verdict}
use Rattle.lf_worlds.specs.views.Tried.{Tried}
use Rattle.lf_judge.proofs.rule_found.know_rule.Goals as goal

pub rule-requires : goal.rule-requires
rule-requires c = let P : Tried → Type 0 = λ t. c.args.number < length t.rules in subst P (sym c.requires.trials) c.requires.rule

pub returns : goal.returns
returns c r at =
    let P : Tried → Type 0 = λ t. slice_get (rule_trees t.rules) c.args.number ≡ Some r in
    let Q : Tried → Type 0 = λ t. IsRuleVerdict t.universe t.env (rule_trees t.rules) c.args.number r (rule_verdict c.in_ok-known.known) in
    subst Q c.requires.trials (c.in_ok-known.ensures.verdict r (subst P (sym c.requires.trials) at))
