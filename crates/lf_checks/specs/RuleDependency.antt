-- rule/dependency: a selector of a name with a colon that no rule records, or of a name that is read in its own making.
use Rattle.std.specs.Prelude.{◌≡◌, ◌⊎◌, true, List, ◌++◌, Option, Some, codes}
use Rattle.std.specs.List.{Contains}
use Rattle.lf_base.specs.Names.{has_colon}
use Rattle.lf_base.specs.declared.place.Span.{Span}
use Rattle.lf_ast.specs.Labels.{Bytes}
use Rattle.lf_ast.specs.Rules.{RuleTree}
use Rattle.lf_ast.specs.Selectors.{selected_name}
use Rattle.lf_ast.specs.Tree.{Selector, Tree, nodes}
use Rattle.lf_ast.specs.declared.expr.Matcher.{Matcher}
use Rattle.lf_ast.specs.declared.expr.Sight.{Sight}
use Rattle.lf_deps.specs.Reading.{IsCyclic}
use Rattle.lf_semantics.specs.Environments.{names_recorded}
use Rattle.lf_checks.specs.Finding.{Finding, Note, RuleDependency, Severity, finding}

-- how grave it is
abbrev pub severity : Severity
severity = Note

-- what it says of a name that no rule records
abbrev pub says_unrecorded : Bytes → Bytes
says_unrecorded name = name ++ codes " is recorded by no accepted rule"

-- what it says of a name that is read in its own making
abbrev pub says_cyclic : Bytes → Bytes
says_cyclic name = name ++ codes " is read in its own making"

-- a selector in the expression, with this span, is of the name: the one before its braces, or that of its first `=` on the metric name
abbrev pub SelectsAt : Tree → Bytes → Span → Type 0
SelectsAt e name span =
    (before : Option Bytes) × (matchers : List Matcher) × (sight : Sight) × Contains (nodes e) (Selector before matchers sight span) × (selected_name before matchers ≡ Some name)

-- a selector of a name with a colon that no rule records, at the selector
abbrev pub IsUnrecorded : List RuleTree → RuleTree → Finding → Type 0
IsUnrecorded rules r f =
    (name : Bytes) × (span : Span) × SelectsAt r.expr name span × (has_colon name ≡ true) × (Contains (names_recorded rules) name → ⊥)
    × (f ≡ finding RuleDependency span (says_unrecorded name))

-- a selector of a name that one of its own rules reads, directly or through others; at the selector
abbrev pub IsOfCyclic : List RuleTree → RuleTree → Finding → Type 0
IsOfCyclic rules r f = (name : Bytes) × (span : Span) × SelectsAt r.expr name span × IsCyclic rules name × (f ≡ finding RuleDependency span (says_cyclic name))

-- what the check finds: either of these
abbrev pub IsFound : List RuleTree → RuleTree → Finding → Type 0
IsFound rules r f = IsUnrecorded rules r f ⊎ IsOfCyclic rules r f
