-- What an `absent` that isn't open gives.
use Rattle.std.proofs.Common.{inr, List, Option, Some, None, Result, Ok, Err}
use Rattle.std.specs.Prelude.{IfOk}
use Rattle.lf_ast.specs.Labels.{Labels}
use Rattle.lf_semantics.specs.Evaluation.{IsAbsent}
use Rattle.lf_semantics.specs.Parts.{Sought}
use Rattle.lf_witness.specs.Strict.{From, IsOnlyWhereEmpty, IsOpenAbsent, IsSet, Outcomes, StrictAbsent}
use Rattle.lf_witness.specs.StrictRuns.{InOrder}

shut_answer : (sought : Option Sought) (operand : Outcomes) → (IsOpenAbsent sought → ⊥) → (one : Labels) → IsAbsent sought one → (o : Option (List Labels))
    → InOrder (From operand (λ P. IsSet (IsOnlyWhereEmpty one P))) o → InOrder (StrictAbsent sought operand) o
shut_answer sought operand shut one is None given = inr (shut, one, is, given)
shut_answer sought operand shut one is (Some R) given = (inr (shut, one, is, given.0), given.1)

pub shut_ok : {E : Type 0} (sought : Option Sought) (operand : Outcomes) (one : Labels) (r : Result (Option (List Labels)) E) → (IsOpenAbsent sought → ⊥) → IsAbsent sought one
    → IfOk r (InOrder (From operand (λ P. IsSet (IsOnlyWhereEmpty one P)))) → IfOk r (InOrder (StrictAbsent sought operand))
shut_ok sought operand one (Ok o) shut is given = shut_answer sought operand shut one is o given
shut_ok sought operand one (Err e) shut is given = tt
