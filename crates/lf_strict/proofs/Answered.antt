-- Answers of an expression from those of its parts.
use Rattle.std.proofs.Common.{◌≡◌, inr, List, Option, Some, None}
use Rattle.lf_ast.specs.Labels.{Labels}
use Rattle.lf_ast.specs.Tree.{Tree}
use Rattle.lf_witness.specs.Strict.{AreSame, From, Outcomes}
use Rattle.lf_witness.specs.StrictRuns.{InOrder, IsStrictAnswer}
use Rattle.lf_witness.proofs.Answers.{one_answer, some_answer}
use Rattle.lf_witness.proofs.SameSamples.{evaluates_into}
use Rattle.lf_strict.specs.views.Evaluated.{answer}

pub answers : (W : List Labels) (e : Tree) → IsStrictAnswer W e (answer W e)
answers W e = (some_answer W e).1

pub is_answer : (W : List Labels) (e : Tree) (o : Option (List Labels)) → IsStrictAnswer W e o → o ≡ answer W e
is_answer W e o is = one_answer W e o (answer W e) is (answers W e)

-- what is given, of an answer
pub given : (f : Outcomes) (o : Option (List Labels)) → InOrder f o → f o
given f None is = is
given f (Some R) is = is.0

pub from_some : (operand : Outcomes) (by : List Labels → Outcomes) (P : List Labels) → InOrder operand (Some P) → (o : Option (List Labels)) → InOrder (by P) o → InOrder (From operand by) o
from_some operand by P some None is = inr (P, some.0, is)
from_some operand by P some (Some R) is = (inr (P, some.0, is.0), is.1)

-- answers over one list of samples are those over another of the same samples
pub over_same : (W V : List Labels) → AreSame W V → (e : Tree) (o : Option (List Labels)) → IsStrictAnswer W e o → IsStrictAnswer V e o
over_same W V same e None is = evaluates_into W V same e None is
over_same W V same e (Some R) is = (evaluates_into W V same e (Some R) is.0, is.1)
