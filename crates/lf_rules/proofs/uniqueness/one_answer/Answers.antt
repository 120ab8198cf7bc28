use Rattle.lf_rules.proofs.Answering.{one_answer as one, rules_or_fault}
use Rattle.lf_rules.proofs.uniqueness.one_answer.Goals as goal

pub returns : goal.returns
returns c = record { answer = one; one = rules_or_fault }
