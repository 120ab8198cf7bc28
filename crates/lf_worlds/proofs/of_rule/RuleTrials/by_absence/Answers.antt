use Rattle.std.proofs.Common.{false, subst}
use Rattle.std.specs.Prelude.{IfOk}
use Rattle.lf_ast.specs.Rules.{rule_trees}
use Rattle.lf_trials.specs.Trials.{ShowsBuilt}
use Rattle.lf_candidates.specs.views.ClassTexts.{name_at}
use Rattle.lf_built.specs.views.Built.{OfRule}
use Rattle.lf_worlds.specs.views.Tried.{ShownFor}
use Rattle.lf_worlds.proofs.of_rule.RuleTrials.by_absence.Goals as goal

pub returns-in-Some-clause-shown : goal.returns-in-Some-clause-shown
returns-in-Some-clause-shown c =
    subst (λ (x : OfRule). IfOk c.by_kept.result (ShownFor (ShowsBuilt x.universe x.env (rule_trees x.rules) x.number (name_at x.universe c.args.label) false))) c.self.view_is c.by_kept.ensures.shown

pub returns-in-None-clause-shown : goal.returns-in-None-clause-shown
returns-in-None-clause-shown c =
    subst (λ (x : OfRule). IfOk c.by_first.result (ShownFor (ShowsBuilt x.universe x.env (rule_trees x.rules) x.number (name_at x.universe c.args.label) false))) c.self.view_is c.by_first.ensures.shown
