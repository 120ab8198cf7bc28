-- What is kept of the parts of an expression until its own samples are made.
use Rattle.std.specs.Prelude.{List, [], ◌∷◌, Option, None}
use Rattle.lf_ast.specs.Labels.{Labels}
use Rattle.lf_ast.specs.Tree.{Tree}
use Rattle.lf_semantics.specs.Parts.{type_by_form}
use Rattle.lf_witness.proofs.Answers.{some_answer}
use Rattle.lf_strict.specs.declared.evaluated.Evaluated.{Evaluated}

-- the one answer for an expression over the samples W
abbrev pub answer : List Labels → Tree → Option (List Labels)
answer W e = (some_answer W e).0

-- what is kept of an expression over the samples W: what it gives, and the type that its form tells
abbrev pub evaluated : List Labels → Tree → Evaluated
evaluated W e = record { answer = answer W e; form = type_by_form e }

-- what the operand of a call gives, which is None where there is no such argument
abbrev pub operand_of : List Evaluated → Option (List Labels)
operand_of [] = None
operand_of (operand ∷ others) = operand.answer
