-- What is prepared for rules is so for the same rules.
use Rattle.std.proofs.Common.{◌≡◌, ◌<◌, ℕ, List, Some, length, refl, sym, ap, ◌∙◌, subst, slice_get}
use Rattle.lf_ast.specs.Rules.{RuleTree, rule_trees}
use Rattle.lf_ast.specs.declared.rule.Rule.{Rule}
use Rattle.lf_deps.specs.views.Sources.{Sources}
use Rattle.lf_graph.specs.Components.{Components}
use Rattle.lf_semantics.specs.ClassRows.{Sets}
use Rattle.lf_semantics.specs.Environments.{rule_row}
use Rattle.lf_semantics.specs.Listing.{Listing}
use Rattle.lf_semantics.specs.RowTable.{Environment}
use Rattle.lf_forks.specs.views.ForkTests.{TellsSelectors}
use Rattle.lf_forks.specs.views.Holding.{Forks, test_of}
use Rattle.lf_built.specs.declared.prepared.Prepared.{Prepared}
use Rattle.lf_built.specs.views.Built.{OfRule}
use Rattle.lf_built.specs.views.Indexed.{IsPreparedFor, env_of, trees_of, universe_of}
use Rattle.lf_worlds.specs.views.Readings.{AreReadingsBy}
use Rattle.lf_worlds.specs.views.Tried.{IsReachAt}

abbrev of_rule : Listing → Environment → List Rule → ℕ → OfRule
of_rule u env rules i = record { universe = u; env = env; rules = rules; number = i }

module _ (u : Listing) (env : Environment) (rules : List Rule) (forks : Forks) (p : Prepared) (is : IsPreparedFor u env rules forks p) where
  pub tells_selectors : TellsSelectors (rule_trees rules) (test_of forks) → TellsSelectors (trees_of p) (test_of p.forks.now)
  tells_selectors tells =
      subst (λ (rs : List Rule). TellsSelectors (rule_trees rs) (test_of p.forks.now)) (sym is.rules) (subst (λ (f : Forks). TellsSelectors (rule_trees rules) (test_of f)) (sym is.forks) tells)

  -- the forks are those that it was prepared with

  pub own_forks : IsPreparedFor u env rules p.forks.now p
  own_forks = record { universe = is.universe; env = is.env; rules = is.rules; forks = refl; prepared = is.prepared }

  pub own_readings : (s : Sources) (g : Components) → AreReadingsBy (rule_trees rules) s g forks → AreReadingsBy (rule_trees rules) s g p.forks.now
  own_readings s g are = subst (λ (f : Forks). AreReadingsBy (rule_trees rules) s g f) (sym is.forks) are

  pub own_row : (r : RuleTree) (row : Sets) → row ≡ rule_row (universe_of p) (env_of p) r → row ≡ rule_row u env r
  own_row r row same = same ∙ ap (λ (x : Listing). rule_row x (env_of p) r) is.universe ∙ ap (λ (x : Environment). rule_row u x r) is.env

  module _ (i : ℕ) where
    pub own_tree : (r : RuleTree) → slice_get (rule_trees rules) i ≡ Some r → slice_get (trees_of p) i ≡ Some r
    own_tree r at = subst (λ (rs : List Rule). slice_get (rule_trees rs) i ≡ Some r) (sym is.rules) at

    pub is_within : i < length rules → i < length p.rules.now
    is_within less = subst (λ (rs : List Rule). i < length rs) (sym is.rules) less

    pub has_reach : (reach : List ℕ) → IsReachAt (rule_trees rules) i reach → IsReachAt (trees_of p) i reach
    has_reach reach of = subst (λ (rs : List Rule). IsReachAt (rule_trees rs) i reach) (sym is.rules) of

    pub has_row : (row : Sets) → ((r : RuleTree) → slice_get (rule_trees rules) i ≡ Some r → row ≡ rule_row u env r) → (r : RuleTree) → slice_get (trees_of p) i ≡ Some r → row ≡ rule_row (universe_of p) (env_of p) r
    has_row row of r at = of r (subst (λ (rs : List Rule). slice_get (rule_trees rs) i ≡ Some r) is.rules at) ∙ sym (own_row r (rule_row (universe_of p) (env_of p) r) refl)

    pub is_built_of : (b : OfRule) → b ≡ of_rule (universe_of p) (env_of p) p.rules.now i → b ≡ of_rule u env rules i
    is_built_of b same =
        same ∙ ap (λ (x : Listing). of_rule x (env_of p) p.rules.now i) is.universe ∙ ap (λ (x : Environment). of_rule u x p.rules.now i) is.env ∙ ap (λ (x : List Rule). of_rule u env x i) is.rules
