use Rattle.std.proofs.Common.{◌≡◌, ◌<◌, ◌+◌, length, sym, ◌∙◌, subst, arith}
use Rattle.lf_ast.specs.Rules.{rule_trees}
use Rattle.lf_classes.specs.Limits.{IsWithin}
use Rattle.lf_trials.specs.Verdicts.{IsLabelVerdict}
use Rattle.lf_candidates.specs.views.ClassTexts.{name_at}
use Rattle.lf_worlds.specs.views.Told.{label_verdict}
use Rattle.lf_built.specs.views.Built.{OfRule}
use Rattle.lf_worlds.proofs.LabelVerdicts.{AreTold, all_told, one_told}
use Rattle.lf_worlds.proofs.of_rule.RuleTrials.verdicts.Goals as goal

pub loop-label-preserved : goal.loop-label-preserved
loop-label-preserved c =
    let v : OfRule = c.args.self.now in
    let label = c.loop-label.label in
    let row = c.args.row.now in
    let within = subst (λ (w : OfRule). IsWithin w.universe) c.self.view_is c.labels-label-end.ensures.within in
    let inside : label < length c.self.inside.universe.now.named = omega (arith, c.labels-label-end.ensures.count, c.loop-label-test.true) in
    let less : label < length v.universe.named = subst (λ (w : OfRule). label < length w.universe.named) c.self.view_is inside in
    let is = subst (λ (w : OfRule). IsLabelVerdict w.universe w.env (rule_trees w.rules) w.number row (name_at w.universe label) (label_verdict c.in_ok-verdict.field-0)) c.loop-label.invariant.0 c.in_ok-verdict.ensures.verdict in (
      c.in_ok-verdict.ensures.same ∙ c.loop-label.invariant.0,
      subst (AreTold v.universe v.env (rule_trees v.rules) v.number row (label + 1)) (sym c.in_ok-push.ensures.ok)
          (one_told v.universe v.env (rule_trees v.rules) v.number row within label c.loop-label.verdicts c.in_ok-verdict.field-0 less c.loop-label.invariant.1 is),
    )

pub returns : goal.returns
returns c =
    let v : OfRule = c.args.self.now in
    let label = c.loop-label.label in
    let within = subst (λ (w : OfRule). IsWithin w.universe) c.self.view_is c.labels-label-end.ensures.within in
    let inside : label ≡ length c.self.inside.universe.now.named = omega (arith, c.labels-label-end.ensures.count, c.loop-label-test.false, c.loop-label.auto.label-end) in
    let end : label ≡ length v.universe.named = subst (λ (w : OfRule). label ≡ length w.universe.named) c.self.view_is inside in
    all_told v.universe v.env (rule_trees v.rules) v.number c.args.row.now within label c.loop-label.verdicts end c.loop-label.invariant.1
