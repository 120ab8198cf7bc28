-- What the built worlds of one rule share: how contracts see the code. It defines nothing.
use Rattle.std.specs.Prelude.{◌≡◌, ◌*◌, ℕ, List, Some, slice_get}
use Rattle.lf_ast.specs.Rules.{RuleTree}
use Rattle.lf_ast.specs.declared.rule.Rule.{Rule}
use Rattle.lf_semantics.specs.ClassRows.{Sets}
use Rattle.lf_semantics.specs.Environments.{rule_row}
use Rattle.lf_semantics.specs.Listing.{Listing}
use Rattle.lf_semantics.specs.RowTable.{Environment}
use Rattle.lf_trials.specs.Built.{selector_count}
use Rattle.lf_trials.specs.Forks.{TellsForks}
use Rattle.lf_trials.specs.Reached.{IsReach, with_reach}
use Rattle.lf_built.specs.declared.prepared.Prepared.{Prepared}
use Rattle.lf_built.specs.views.Indexed.{IsPrepared, env_of, forks_of, trees_of, universe_of}

-- the universe, the environment and the rules, and the number of the rule
pub record OfRule : Type 0 where
  pub universe : Listing
  pub env : Environment
  pub rules : List Rule
  pub number : ℕ

-- what is known of it: its rule and its reach, the row of the rule, and how many selectors may be built
pub record IsOfRule (p : Prepared) (i : ℕ) (row : Sets) (most : ℕ) : Type 0 where
  pub prepared : IsPrepared p
  pub forks : TellsForks (trees_of p) (forks_of p)
  pub rule : RuleTree
  pub is_rule : slice_get (trees_of p) i ≡ Some rule
  pub reach : List ℕ
  pub is_reach : IsReach (trees_of p) rule.expr reach
  pub is_row : row ≡ rule_row (universe_of p) (env_of p) rule
  pub is_most : most ≡ 4 * selector_count (trees_of p) (with_reach i reach)
