-- Laws of rows and environments that the contracts of code cite.
use Rattle.std.specs.Prelude.{List}
use Rattle.std.specs.List.{Contains}
use Rattle.lf_ast.specs.Labels.{Labels}
use Rattle.lf_ast.specs.Rules.{RuleTree}
use Rattle.lf_ast.specs.Tree.{Tree}
use Rattle.lf_semantics.specs.ClassRows.{Represents, Sets}
use Rattle.lf_semantics.specs.Environments.{EnvironmentLeq, IsEnvironment, Leq, rule_row}
use Rattle.lf_semantics.specs.Listing.{Listing}
use Rattle.lf_semantics.specs.RowTable.{Environment, row_of}
use Rattle.lf_semantics.specs.Worlds.{IsSample, SetsNoName, World}

-- rows grow with the environment: this row, of an expression in an environment, is at most the row of the expression in every greater environment
abbrev pub GrowsFrom : Listing → Environment → Tree → Sets → Type 0
GrowsFrom u env e row = (other : Environment) → IsEnvironment u other → EnvironmentLeq env other → Leq row (row_of u other e)

-- no rule sets the metric name by a label
abbrev pub SetNoNames : List RuleTree → Type 0
SetNoNames rules = (r : RuleTree) → Contains rules r → SetsNoName r

-- in every world of the rules the row represents each sample of the rule
abbrev pub RepresentsRule : Listing → List RuleTree → RuleTree → Sets → Type 0
RepresentsRule u rules rule row = (world : World rules) (s : Labels) → IsSample world rule s → Represents u row s

-- in every world of the rules each sample of each rule is represented by the rule's row in the environment
abbrev pub RepresentsRules : Listing → List RuleTree → Environment → Type 0
RepresentsRules u rules env = (rule : RuleTree) → RepresentsRule u rules rule (rule_row u env rule)
