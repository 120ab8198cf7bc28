-- alert/comparison: an alert whose expression compares nothing, so that it fires wherever there is a sample.
use Rattle.std.specs.Prelude.{◌≡◌, Bool, true, false, ◌&&◌, ◌||◌, Option, Some, None, codes}
use Rattle.lf_ast.specs.Functions.{Signature, function_named}
use Rattle.lf_ast.specs.Labels.{Bytes}
use Rattle.lf_ast.specs.Rules.{RuleTree}
use Rattle.lf_ast.specs.Tree.{Tree, Trees, Number, Str, Selector, Subquery, Paren, Unary, Binary, Call, Aggregate, Nil, Next}
use Rattle.lf_ast.specs.declared.expr.Matching.{Matching}
use Rattle.lf_ast.specs.declared.expr.Op.{Op}
use Rattle.lf_ast.specs.declared.expr.Op.TheVariants.{Or, Unless}
use Rattle.lf_ast.specs.declared.functions.LabelEffect.{LabelEffect}
use Rattle.lf_ast.specs.declared.functions.LabelEffect.TheVariants.{Absent}
use Rattle.lf_semantics.specs.Grouped.{is_filter}
use Rattle.lf_semantics.specs.Parts.{takes_samples, type_by_form}
use Rattle.lf_checks.specs.Finding.{AlertComparison, Finding, Problem, Severity, finding}

-- how grave it is
abbrev pub severity : Severity
severity = Problem

-- what it says
abbrev pub says : Bytes
says = codes "the alert's expression compares nothing"

-- `absent` and `absent_over_time`
abbrev pub looks_for_absence : LabelEffect → Bool
looks_for_absence Absent = true
looks_for_absence _ = false

-- the function is one of these
abbrev pub is_absent_function : Option Signature → Bool
is_absent_function None = false
is_absent_function (Some s) = looks_for_absence s.labels

-- an operand counts only where it is a vector or a range vector
abbrev pub of_samples : Tree → Bool → Bool
of_samples e is = takes_samples (type_by_form e) && is

-- an operator is conditional, by its sides: `unless` always, `or` where both sides are, and any other where it lets samples through by a comparison, or a side is
abbrev pub joins_conditions : Op → Matching → Bool → Bool → Bool
joins_conditions Unless m left right = true
joins_conditions Or m left right = left && right
joins_conditions op m left right = is_filter op m || (left || right)

abbrev mutual
  -- the expression is conditional: by its form it compares, or asks for samples that are lacking
  pub is_conditional : Tree → Bool
  is_conditional (Number text span) = false
  is_conditional (Str text span) = false
  is_conditional (Selector name matchers sight span) = false
  is_conditional (Subquery of sight span) = is_conditional of
  is_conditional (Paren of span) = is_conditional of
  is_conditional (Unary minus of span) = of_samples of (is_conditional of)
  is_conditional (Binary op m left right span) = joins_conditions op m (of_samples left (is_conditional left)) (of_samples right (is_conditional right))
  is_conditional (Call name args span) = is_absent_function (function_named name) || has_conditional args
  is_conditional (Aggregate op grouping args span) = has_conditional args

  -- an argument is, among those that are vectors or range vectors
  pub has_conditional : Trees → Bool
  has_conditional Nil = false
  has_conditional (Next x xs) = of_samples x (is_conditional x) || has_conditional xs

-- an alert whose expression isn't conditional, at the expression
abbrev pub IsFound : RuleTree → Finding → Type 0
IsFound r f = (r.alert ≡ true) × (is_conditional r.expr ≡ false) × (f ≡ finding AlertComparison r.expr_span says)
