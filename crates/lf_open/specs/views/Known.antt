-- What is known of rules when an expression is looked at: how contracts see the code. It defines nothing.
use Rattle.std.specs.Prelude.{◌≡◌, List}
use Rattle.std.specs.List.{Contains}
use Rattle.lf_ast.specs.Rules.{RuleTree, rule_trees}
use Rattle.lf_ast.specs.Tree.{Tree}
use Rattle.lf_deps.specs.views.Names.{IsNameGraphOf}
use Rattle.lf_deps.specs.views.Sources.{IsSourcesOf}
use Rattle.lf_forks.specs.views.ForkTests.{TellsSelectors}
use Rattle.lf_forks.specs.views.Holding.{test_of}
use Rattle.lf_open.specs.Holding.{has_own_source, names_le}
use Rattle.lf_open.specs.declared.known.RuleReadings.{RuleReadings}
use Rattle.lf_open.specs.views.Marks.{TellsReading}
use Rattle.lf_open.specs.views.ReadNames.{IsReadGraph}

-- the rules
abbrev pub rules_of : RuleReadings → List RuleTree
rules_of k = rule_trees k.rules.now

-- all is as it is to be
pub record IsKnown (k : RuleReadings) : Type 0 where
  pub sources : IsSourcesOf (rules_of k) k.sources.now
  pub graph : IsNameGraphOf k.sources.now k.graph.now
  pub reading : IsReadGraph (rules_of k) k.reading.now
  pub forks : TellsSelectors (rules_of k) (test_of k.forks.now)
  pub loud : TellsReading (rules_of k) (λ r. has_own_source r.expr) k.loud.now
  pub on_le : TellsReading (rules_of k) names_le k.on_le.now

-- the expression is that of a rule
abbrev pub IsOfRule : List RuleTree → Tree → Type 0
IsOfRule rules e = (r : RuleTree) × Contains rules r × (r.expr ≡ e)
