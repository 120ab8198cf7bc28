use Rattle.lf_scalar.proofs.OneAnswer.{one-scalar, one-breach, never-both, some-answer}
use Rattle.lf_scalar.proofs.uniqueness.one_answer.Goals as goal

pub returns-clause-scalar : goal.returns-clause-scalar
returns-clause-scalar c = one-scalar

pub returns-clause-breach : goal.returns-clause-breach
returns-clause-breach c = one-breach

pub returns-clause-one : goal.returns-clause-one
returns-clause-one c = never-both

pub returns-clause-some : goal.returns-clause-some
returns-clause-some c = some-answer
