-- Rules have one least environment: two that lie in each other are equal, since their rows have no class where some label has none.
use Rattle.std.proofs.Common.{◌≡◌, List, [], ◌∷◌, refl, ap₂}
use Rattle.std.specs.List.{AllByRecursion}
use Rattle.lf_ast.specs.Labels.{Bytes}
use Rattle.lf_ast.specs.Rules.{RuleTree}
use Rattle.lf_semantics.specs.ClassRows.{Sets}
use Rattle.lf_semantics.specs.Environments.{EnvironmentLeq, IsLeast, IsRow}
use Rattle.lf_semantics.specs.Listing.{Listing}
use Rattle.lf_semantics.specs.RowTable.{Environment}
use Rattle.lf_flow.proofs.Joins.{same_row}

module _ (u : Listing) where
  same_environment : (env other : Environment) → AllByRecursion (λ entry. IsRow u entry.1) env → AllByRecursion (λ entry. IsRow u entry.1) other → EnvironmentLeq env other → EnvironmentLeq other env → env ≡ other
  same_environment [] [] p q h k = refl
  same_environment [] (b ∷ other) p q h k = absurd h
  same_environment (a ∷ env) [] p q h k = absurd h
  same_environment (a ∷ env) (b ∷ other) p q h k =
      ap₂ (λ (x : Bytes × Sets) (xs : Environment). x ∷ xs) (ap₂ (λ (n : Bytes) (row : Sets). (n, row)) h.0 (same_row u a.1 b.1 p.0 q.0 h.1 k.1))
      (same_environment env other p.1 q.1 h.2 k.2)

  pub one_least : (rules : List RuleTree) (a b : Environment) → IsLeast u rules a → IsLeast u rules b → a ≡ b
  one_least rules a b h k = same_environment a b h.of_rules.environment.rows k.of_rules.environment.rows (h.least b k.of_rules k.closed) (k.least a h.of_rules h.closed)
