-- rule/duplicate: a recording rule that stands before, in this file or an earlier one.
use Rattle.std.specs.Prelude.{◌≡◌, ◌<◌, ℕ, false, List, map, ◌++◌, Some, codes, slice_get}
use Rattle.lf_ast.specs.Labels.{Bytes}
use Rattle.lf_ast.specs.Rules.{RuleTree}
use Rattle.lf_ast.specs.Spanless.{spanless}
use Rattle.lf_ast.specs.declared.rule.RuleLabel.{RuleLabel}
use Rattle.lf_checks.specs.Files.{File, IsNamedAt}
use Rattle.lf_checks.specs.Finding.{Finding, Problem, RuleDuplicate, Severity, finding}

-- how grave it is
abbrev pub severity : Severity
severity = Problem

-- what it says of the place where the same rule stands
abbrev pub says_where : Bytes → Bytes
says_where place = codes "the same rule stands at " ++ place

-- labels and their texts, in the order of the rule
abbrev pub pairs_of : List RuleLabel → List (Bytes × Bytes)
pairs_of labels = map (λ l. (l.key, l.value)) labels

-- two recording rules with the same name, the same labels in the same order, and the same expression but for its spans
abbrev pub AreSameRule : RuleTree → RuleTree → Type 0
AreSameRule r s = (r.alert ≡ false) × (s.alert ≡ false) × (r.name ≡ s.name) × (pairs_of r.labels ≡ pairs_of s.labels) × (spanless r.expr ≡ spanless s.expr)

-- rule j, which is s, is the first of the rules that is the same as rule i, which is r, and it stands before rule i
abbrev pub IsFirstAt : List RuleTree → ℕ → RuleTree → ℕ → RuleTree → Type 0
IsFirstAt rules i r j s = (j < i) × (slice_get rules j ≡ Some s) × AreSameRule r s × ((k : ℕ) (t : RuleTree) → k < j → slice_get rules k ≡ Some t → AreSameRule r t → ⊥)

-- s is this first rule
abbrev pub IsFirstSame : List RuleTree → ℕ → RuleTree → RuleTree → Type 0
IsFirstSame rules i r s = (j : ℕ) × IsFirstAt rules i r j s

-- of rule i, which is r, at its name: it says where the first such rule has its name
abbrev pub IsFound : List File → List RuleTree → ℕ → RuleTree → Finding → Type 0
IsFound files rules i r f = (s : RuleTree) × (place : Bytes) × IsFirstSame rules i r s × IsNamedAt files s place × (f ≡ finding RuleDuplicate r.name_span (says_where place))
