use Rattle.lf_base.proofs.Answering.{one_answer}
use Rattle.lf_ast.specs.Breaches.{Tells}
use Rattle.lf_ast.specs.reading.Judging.{judged}
use Rattle.lf_ast.specs.Types.{HasType}
use Rattle.lf_ast.proofs.Judged.{decides, no_breach}
use Rattle.lf_ast.proofs.laws.one_type.Goals as goal

pub returns : goal.returns
returns c = record { answer = λ e. one_answer (HasType e) (Tells e) (judged e) (decides e); none = λ e t f has breaks. no_breach e t has f breaks }
