use Rattle.std.proofs.Common.{◌≡◌, sym, ◌∙◌, subst}
use Rattle.lf_ast.specs.Rules.{rule_trees}
use Rattle.lf_trials.specs.Verdicts.{IsLabelVerdict}
use Rattle.lf_candidates.specs.views.ClassTexts.{name_at}
use Rattle.lf_worlds.specs.views.Told.{label_verdict}
use Rattle.lf_built.specs.views.Built.{OfRule}
use Rattle.lf_worlds.specs.views.Tried.{leaves_both}
use Rattle.lf_worlds.proofs.SharedAbsence.{is_left}
use Rattle.lf_worlds.proofs.of_rule.RuleTrials.verdict.Goals as goal

pub leaves_both-requires-clause-within : goal.leaves_both-requires-clause-within
leaves_both-requires-clause-within c = c.self.invariant.5

pub by_row-requires-clause-within : goal.by_row-requires-clause-within
by_row-requires-clause-within c = c.self.invariant.5

pub returns-else-leaves_both-clause-verdict : goal.returns-else-leaves_both-clause-verdict
returns-else-leaves_both-clause-verdict c =
    subst (λ (v : OfRule). IsLabelVerdict v.universe v.env (rule_trees v.rules) v.number c.args.row.now (name_at v.universe c.args.label) (label_verdict c.by_row.result)) c.self.view_is
    (c.by_row.ensures c.self.inside.env.now (rule_trees c.self.inside.rules.now) c.self.inside.number)

pub tried-requires-clause-left : goal.tried-requires-clause-left
tried-requires-clause-left c =
    let v : OfRule = c.args.self.now in
    let both = subst (λ (w : OfRule). c.leaves_both.result ≡ leaves_both w.universe c.args.row.now (name_at w.universe c.args.label)) c.self.view_is c.leaves_both.ensures in
    is_left v.universe v.env (rule_trees v.rules) v.number c.args.row.now (name_at v.universe c.args.label) c.requires.row (sym both ∙ c.if-leaves_both.true)
