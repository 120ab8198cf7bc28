-- What is told at once of an expression that may compare.
use Rattle.std.specs.Prelude.{Bool, ◌&&◌}
use Rattle.lf_ast.specs.Tree.{Tree}
use Rattle.lf_semantics.specs.Parts.{takes_samples, type_by_form}
use Rattle.lf_checks.specs.AlertComparison.{is_conditional}
use Rattle.lf_checks.specs.declared.alert_comparison.Condition.{Condition}

-- whether it is conditional, and the type that its form tells
abbrev pub condition_of : Tree → Condition
condition_of e = record { conditional = is_conditional e; form = type_by_form e }

-- as an operand it counts only where it is a vector or a range vector
abbrev pub counts : Condition → Bool
counts c = takes_samples c.form && c.conditional
