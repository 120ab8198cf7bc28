use Rattle.lf_yaml.proofs.Whole.{one-answer}
use Rattle.lf_yaml.proofs.uniqueness.one_answer.Goals as goal

pub returns : goal.returns
returns c = one-answer
