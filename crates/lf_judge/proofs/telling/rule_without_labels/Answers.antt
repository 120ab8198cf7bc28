use Rattle.std.proofs.Common.{None, false, refl}
use Rattle.std.proofs.lemmas.Result.{IfOk-weaker}
use Rattle.lf_deps.proofs.RuleTrees.{tree_at}
use Rattle.lf_ast.specs.Rules.{rule_tree}
use Rattle.lf_judge.specs.Judged.{Checked}
use Rattle.lf_judge.proofs.telling.rule_without_labels.Goals as goal

pub returns : goal.returns
returns c =
    let number = c.args.number in
    let r = rule_tree c.get-rule.result.now in
    let at = tree_at c.args.hand.now.rules.now number c.get-rule.result.now c.get-rule.ensures.value in
    let v = c.in_ok-findings.ensures.empty r at in
    let f = c.in_ok-findings.ensures.findings in
    let checked : Checked = record { rule = r; verdict = v.0; first = None; found = f.0 } in
    IfOk-weaker c.report_of.result _ _ (λ told e. (checked, record { rule = at; verdict = v.1; first = λ on some. cc; list = f.1 }, e)) (c.report_of.ensures false number checked refl refl v.2 f.2)
