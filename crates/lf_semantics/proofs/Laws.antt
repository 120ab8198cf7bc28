-- The laws of specs/Laws.
use Rattle.std.proofs.Common.{List}
use Rattle.lf_ast.specs.Rules.{RuleTree}
use Rattle.lf_ast.specs.Tree.{Tree}
use Rattle.lf_semantics.specs.Environments.{CoversRules, IsEnvironment, IsLeast}
use Rattle.lf_semantics.specs.Laws.{GrowsFrom, RepresentsRules, SetNoNames}
use Rattle.lf_semantics.specs.Listing.{IsListing, Listing}
use Rattle.lf_semantics.specs.RowTable.{Environment, row_of}
use Rattle.lf_semantics.proofs.RowsGrow.{row_grows}
use Rattle.lf_semantics.proofs.SamplesRepresented.{sample_represented}

-- the row of an expression grows with the environment
pub grows_from : (u : Listing) → IsListing u → (env : Environment) → IsEnvironment u env → (e : Tree) → GrowsFrom u env e (row_of u env e)
grows_from u p env ok e other ok' leq = row_grows u p env other ok ok' leq e

-- the least environment of rules represents their samples in every world
pub least_represents : (u : Listing) → IsListing u → (rules : List RuleTree) → CoversRules u rules → SetNoNames rules → (env : Environment) → IsLeast u rules env → RepresentsRules u rules env
least_represents u p rules covers named env least rule world s sample = sample_represented u p rules covers named env least.of_rules least.closed world rule s sample
