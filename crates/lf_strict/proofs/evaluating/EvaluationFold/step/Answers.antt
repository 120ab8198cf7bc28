use Rattle.lf_ast.specs.Tree.{tree}
use Rattle.lf_strict.proofs.Operands.{both_ok, is_evaluated}
use Rattle.lf_strict.proofs.evaluating.EvaluationFold.step.Goals as goal

pub returns : goal.returns
returns c = both_ok c.from_parts.result (λ made answered form. is_evaluated c.args.self.now.store.now (tree c.args.expr.now) made answered form) c.from_parts.ensures.answer c.from_parts.ensures.form
