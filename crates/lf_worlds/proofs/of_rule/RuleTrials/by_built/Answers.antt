use Rattle.std.proofs.Common.{Bool, sym, subst}
use Rattle.std.specs.Prelude.{IfOk}
use Rattle.lf_ast.specs.Rules.{rule_trees}
use Rattle.lf_trials.specs.Trials.{ShowsBuilt}
use Rattle.lf_candidates.specs.views.ClassTexts.{name_at}
use Rattle.lf_built.specs.views.Built.{OfRule}
use Rattle.lf_worlds.specs.views.Tried.{ShownFor}
use Rattle.lf_worlds.proofs.of_rule.RuleTrials.by_built.Goals as goal

pub returns-then-presence-clause-shown : goal.returns-then-presence-clause-shown
returns-then-presence-clause-shown c =
    let v : OfRule = c.args.self.now in
    subst (λ (p : Bool). IfOk c.by_trial.result (ShownFor (ShowsBuilt v.universe v.env (rule_trees v.rules) v.number (name_at v.universe c.args.label) p))) (sym c.if-presence.true) c.by_trial.ensures

pub returns-else-presence-clause-shown : goal.returns-else-presence-clause-shown
returns-else-presence-clause-shown c =
    let v : OfRule = c.args.self.now in
    subst (λ (p : Bool). IfOk c.by_absence.result (ShownFor (ShowsBuilt v.universe v.env (rule_trees v.rules) v.number (name_at v.universe c.args.label) p))) (sym c.if-presence.false) c.by_absence.ensures.shown
