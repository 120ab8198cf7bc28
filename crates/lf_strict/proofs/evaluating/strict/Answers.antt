use Rattle.std.proofs.Common.{List}
use Rattle.std.proofs.lemmas.Result.{IfOk-weaker}
use Rattle.lf_ast.specs.Labels.{Labels}
use Rattle.lf_ast.specs.Tree.{tree}
use Rattle.lf_witness.proofs.Answers.{one_answer}
use Rattle.lf_strict.proofs.Answered.{over_same}
use Rattle.lf_strict.proofs.evaluating.strict.Goals as goal

pub returns-clause-answer : goal.returns-clause-answer
returns-clause-answer c =
    let stored : List Labels = c.args.stored.now in
    let same = c.in_ok-store.ensures in
    IfOk-weaker c.evaluate.result _ _ (λ told is. over_same c.in_ok-store.store stored (same.1, same.0) (tree c.args.expr.now) told is) c.evaluate.ensures

pub returns-clause-only : goal.returns-clause-only
returns-clause-only c = λ answer is.
    let stored : List Labels = c.args.stored.now in
    let same = c.in_ok-store.ensures in
    let e = tree c.args.expr.now in
    IfOk-weaker c.evaluate.result _ _ (λ told told_is. one_answer stored e told answer (over_same c.in_ok-store.store stored (same.1, same.0) e told told_is) is) c.evaluate.ensures
