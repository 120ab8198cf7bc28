-- On which stored samples the strict answer for an expression depends.
use Rattle.std.specs.Prelude.{List, Option, Some, ◌↔◌}
use Rattle.std.specs.List.{Contains}
use Rattle.lf_ast.specs.Labels.{Labels}
use Rattle.lf_ast.specs.Rules.{RuleTree}
use Rattle.lf_ast.specs.Tree.{Tree}
use Rattle.lf_witness.specs.StrictRuns.{IsStrictAnswer}
use Rattle.lf_deps.specs.Reading.{Reads, selectors}
use Rattle.lf_open.specs.Constructs.{SaysNoName}
use Rattle.lf_semantics.specs.Standing.{standing}
use Rattle.lf_shown.specs.Agreement.{AgreeOn, MetricNames}

-- each selector that stands in the expression says a name: none leaves the metric name open
abbrev pub EachSaysName : List RuleTree → Tree → Type 0
EachSaysName rules e = (part : Tree) → Contains (standing e) part → SaysNoName rules part → ⊥

-- the names that the expression's own selectors say
abbrev pub OwnNames : Tree → MetricNames
OwnNames e name = Contains (selectors e) (Some name)

-- The answer for the expression depends only on the stored samples of these names. Over any samples that agree on them it is the same: one list, or None over both.
abbrev pub DependsOnlyOn : MetricNames → Tree → Type 0
DependsOnlyOn these e = (W V : List Labels) → AgreeOn these W V → (o : Option (List Labels)) → IsStrictAnswer W e o ↔ IsStrictAnswer V e o

-- The law of dependence: where each selector of an expression says a name, the answer depends only on the stored samples of the names that the expression reads.
abbrev pub DependsOnRead : Type 0
DependsOnRead = (rules : List RuleTree) (e : Tree) → EachSaysName rules e → DependsOnlyOn (Reads rules e) e

-- And of these it depends only on the names that its own selectors say: what a rule recorded is read as it is stored, and not what the rule read for it.
abbrev pub DependsOnOwn : Type 0
DependsOnOwn = (rules : List RuleTree) (e : Tree) → EachSaysName rules e → DependsOnlyOn (OwnNames e) e
