-- expr/empty: a rule that never has a sample, though its expression could be evaluated.
use Rattle.std.specs.Prelude.{◌≡◌, true, false, codes}
use Rattle.lf_ast.specs.Labels.{Bytes}
use Rattle.lf_ast.specs.Rules.{RuleTree}
use Rattle.lf_semantics.specs.ClassRows.{Sets, is_live}
use Rattle.lf_semantics.specs.Parts.{is_evaluated, type_by_form}
use Rattle.lf_checks.specs.Finding.{ExprEmpty, Finding, Problem, Severity, finding}

-- how grave it is
abbrev pub severity : Severity
severity = Problem

-- what it says
abbrev pub says : Bytes
says = codes "the expression has no sample in any run"

-- a rule that is a scalar or a vector, and whose row is empty; at the expression
abbrev pub IsFound : Sets → RuleTree → Finding → Type 0
IsFound row r f = (is_evaluated (type_by_form r.expr) ≡ true) × (is_live row ≡ false) × (f ≡ finding ExprEmpty r.expr_span says)
