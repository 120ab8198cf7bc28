-- expr/type: a rule whose expression is of a type that rules can't have.
use Rattle.std.specs.Prelude.{◌≡◌, false, codes}
use Rattle.lf_ast.specs.Labels.{Bytes}
use Rattle.lf_ast.specs.Rules.{RuleTree}
use Rattle.lf_semantics.specs.Parts.{is_evaluated, type_by_form}
use Rattle.lf_checks.specs.Finding.{ExprType, Finding, Problem, Severity, finding}

-- how grave it is
abbrev pub severity : Severity
severity = Problem

-- what it says
abbrev pub says : Bytes
says = codes "a rule needs a scalar or an instant vector"

-- a rule that is a string or a range vector, at the expression
abbrev pub IsFound : RuleTree → Finding → Type 0
IsFound r f = (is_evaluated (type_by_form r.expr) ≡ false) × (f ≡ finding ExprType r.expr_span says)
