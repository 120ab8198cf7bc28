-- What it takes for a label to stay unresolved: a construct that stands open.
use Rattle.std.specs.Prelude.{◌≢◌, ℕ, List, []}
use Rattle.std.specs.List.{Contains}
use Rattle.lf_ast.specs.Rules.{RuleTree}
use Rattle.lf_ast.specs.Types.{HasType}
use Rattle.lf_ast.specs.declared.expr.ExprType.{ExprType}
use Rattle.lf_open.specs.OpenList.{AreOpen}
use Rattle.lf_open.specs.declared.open_at.OpenAt.{OpenAt}
use Rattle.lf_trials.specs.Verdicts.{Empty, Labels, RuleVerdict, Unresolved}

-- each rule has a type
abbrev pub AreTyped : List RuleTree → Type 0
AreTyped rules = (r : RuleTree) → Contains rules r → (t : ExprType) × HasType r.expr t

-- the list of the open constructs of rule i isn't empty
abbrev pub HasOpen : List RuleTree → ℕ → Type 0
HasOpen rules i = (found : List OpenAt) → AreOpen rules i found → found ≢ []

-- of rule i a label is unresolved only where a construct stands open, in its expression or in a rule that it reads
abbrev pub IsOpenIfUnresolved : List RuleTree → ℕ → RuleVerdict → Type 0
IsOpenIfUnresolved rules i Empty = Unit {0}
IsOpenIfUnresolved rules i (Labels verdicts) = Contains verdicts Unresolved → HasOpen rules i
