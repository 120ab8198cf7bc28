use Rattle.std.proofs.Common.{List, Some, subst}
use Rattle.lf_ast.specs.Labels.{Labels}
use Rattle.lf_ast.specs.Rules.{rule_tree}
use Rattle.lf_witness.specs.StrictRuns.{InOrder, StepAdds}
use Rattle.lf_strict.proofs.stepping.step.Goals as goal

pub returns-in_ok-take-in-Some : goal.returns-in_ok-take-in-Some
returns-in_ok-take-in-Some c =
    let W : List Labels = c.args.store.now in
    let added : InOrder (StepAdds W (rule_tree c.args.rule.now)) (Some c.in-Some.samples) = subst (InOrder (StepAdds W (rule_tree c.args.rule.now))) c.in-Some.is c.in_ok-samples.ensures in
    (c.in-Some.samples, added.0, c.in_ok-take-in-Some.ensures)
