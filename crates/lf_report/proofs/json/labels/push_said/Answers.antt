use Rattle.std.proofs.Common.{length, subst, sym}
use Rattle.lf_report.specs.Numbers.{NameRulesBelow, labels_in}
use Rattle.lf_report.proofs.json.labels.push_said.Goals as goal

pub push_told-requires-clause-rules : goal.push_told-requires-clause-rules
push_told-requires-clause-rules c =
    let n = length c.args.report.now.rules in
    subst (NameRulesBelow n) (sym c.as_slice.ensures) (subst (λ v. NameRulesBelow n (labels_in v)) c.in-Labels.is c.requires.rules)
