use Rattle.std.proofs.Common.{Some, true, ap, refl}
use Rattle.std.proofs.lemmas.Result.{IfOk-weaker}
use Rattle.lf_deps.proofs.RuleTrees.{tree_at}
use Rattle.lf_ast.specs.Rules.{rule_tree}
use Rattle.lf_worlds.specs.views.Told.{rule_verdict}
use Rattle.lf_judge.specs.Judged.{Checked}
use Rattle.lf_judge.proofs.telling.rule_with_labels.Goals as goal

pub returns : goal.returns
returns c =
    let number = c.args.number in
    let r = rule_tree c.get-rule.result.now in
    let at = tree_at c.args.hand.now.rules.now number c.get-rule.result.now c.get-rule.ensures.value in
    let f = c.requires.found.list in
    let checked : Checked = record { rule = r; verdict = rule_verdict c.args.found.known; first = c.args.first; found = f.0 } in
    let told = c.in_ok-verdicts.ensures r refl in
    IfOk-weaker c.report_of.result _ _ (λ report e. (checked, record { rule = at; verdict = c.requires.found.verdict r at; first = λ on. c.requires.first; list = f.1 }, e))
    (c.report_of.ensures true number checked refl (ap Some told) (c.are_empty-empty.ensures number checked told) f.2)
