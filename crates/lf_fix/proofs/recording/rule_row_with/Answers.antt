use Rattle.std.proofs.Common.{◌≡◌, sym, subst}
use Rattle.std.proofs.lemmas.Result.{IfOk-weaker}
use Rattle.lf_ast.specs.Rules.{RuleTree, rule_tree}
use Rattle.lf_semantics.specs.ClassRows.{Sets}
use Rattle.lf_semantics.specs.Environments.{rule_row}
use Rattle.lf_semantics.specs.Laws.{RepresentsRule}
use Rattle.lf_semantics.proofs.Laws.{least_represents}
use Rattle.lf_fix.proofs.recording.rule_row_with.Goals as goal

pub returns-clause-represents : goal.returns-clause-represents
returns-clause-represents c rules covers named least =
    let u = c.args.universe.now in
    let r : RuleTree = rule_tree c.args.rule.now in
    let R : Sets → Type 0 = λ row. RepresentsRule u rules r row in
    let own : R (rule_row u c.args.env.now r) = least_represents u c.labels-labels.ensures.within.listing rules covers named c.args.env.now least r in
    IfOk-weaker c.row_in.result (λ row. row ≡ rule_row u c.args.env.now r) R (λ row is. subst R (sym is) own) c.row_in.ensures
