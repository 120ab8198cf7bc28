use Rattle.lf_lex.proofs.TokenLaws.{one_answer}
use Rattle.lf_lex.proofs.laws.one_reading.Goals as goal

pub returns : goal.returns
returns c = one_answer
