use Rattle.std.proofs.Common.{Bool, true, sym, subst}
use Rattle.std.specs.Prelude.{IfOk}
use Rattle.lf_ast.specs.Rules.{rule_trees}
use Rattle.lf_semantics.specs.ClassRows.{Sets}
use Rattle.lf_trials.specs.Trials.{IsFirstShown}
use Rattle.lf_trials.specs.Verdicts.{IsLabelVerdict, LeavesBoth}
use Rattle.lf_candidates.specs.views.ClassTexts.{name_at}
use Rattle.lf_worlds.specs.views.Told.{label_verdict, shown_by}
use Rattle.lf_built.specs.views.Built.{OfRule}
use Rattle.lf_worlds.specs.views.Tried.{IsLeft, ShownFor}
use Rattle.lf_worlds.proofs.of_rule.RuleTrials.tried.Goals as goal

pub beside-requires-clause-with : goal.beside-requires-clause-with
beside-requires-clause-with c =
    let v : OfRule = c.args.self.now in
    let with = subst (ShownFor (IsFirstShown v.universe v.env (rule_trees v.rules) v.number (name_at v.universe c.args.label) true)) c.in-Some.is c.in_ok-with.ensures.shown in
    subst (λ (w : OfRule). IsFirstShown w.universe w.env (rule_trees w.rules) w.number (name_at w.universe c.args.label) true (shown_by c.in-Some.with)) (sym c.in_ok-with.ensures.same) with

pub returns-in-Some-clause-verdict : goal.returns-in-Some-clause-verdict
returns-in-Some-clause-verdict c =
    subst (λ (v : OfRule). (row : Sets) → LeavesBoth v.universe v.env (rule_trees v.rules) v.number row (name_at v.universe c.args.label)
    → IfOk c.beside.result (λ x. IsLabelVerdict v.universe v.env (rule_trees v.rules) v.number row (name_at v.universe c.args.label) (label_verdict x))) c.in_ok-with.ensures.same c.beside.ensures.verdict

pub first_shown-requires-clause-left : goal.first_shown-requires-clause-left
first_shown-requires-clause-left c = c.requires.left true

pub beside-requires-clause-left : goal.beside-requires-clause-left
beside-requires-clause-left c =
    subst (λ (w : OfRule). (presence : Bool) → IsLeft w.universe w.env (rule_trees w.rules) w.number (name_at w.universe c.args.label) presence) (sym c.in_ok-with.ensures.same) c.requires.left
