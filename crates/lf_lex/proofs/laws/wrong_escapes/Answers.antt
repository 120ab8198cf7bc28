use Rattle.lf_lex.proofs.EscapePlaces.{backslash as told}
use Rattle.lf_lex.proofs.laws.wrong_escapes.Goals as goal

pub returns : goal.returns
returns c = record { backslash = told }
