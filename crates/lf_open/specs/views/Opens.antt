-- What is known of rules to find what stands open in them: how contracts see the code. It defines nothing.
use Rattle.std.specs.Prelude.{◌≡◌, ℕ, List, ◌++◌}
use Rattle.lf_ast.specs.Rules.{RuleTree, rule_trees}
use Rattle.lf_deps.specs.views.Names.{IsNameGraphOf}
use Rattle.lf_deps.specs.views.Sources.{IsSourcesOf}
use Rattle.lf_forks.specs.views.ForkTests.{TellsSelectors}
use Rattle.lf_forks.specs.views.Holding.{test_of}
use Rattle.lf_open.specs.Holding.{has_own_source, names_le}
use Rattle.lf_open.specs.OpenList.{AreOpenOfEach}
use Rattle.lf_open.specs.declared.open_at.OpenAt.{OpenAt}
use Rattle.lf_open.specs.declared.opens.Marked.{Marked}
use Rattle.lf_open.specs.declared.opens.Opens.{Opens}
use Rattle.lf_open.specs.declared.opens.Reads.{Reads}
use Rattle.lf_open.specs.views.Marks.{TellsReading}
use Rattle.lf_open.specs.views.ReadNames.{IsReadGraph}

-- the rules
abbrev pub rules_of_opens : Opens → List RuleTree
rules_of_opens o = rule_trees o.rules.now

-- what rules read is as it is to be
pub record AreReads (rules : List RuleTree) (x : Reads) : Type 0 where
  pub sources : IsSourcesOf rules x.sources
  pub graph : IsNameGraphOf x.sources x.graph
  pub reading : IsReadGraph rules x.names

-- and which of them hold what
pub record AreMarked (rules : List RuleTree) (x : Marked) : Type 0 where
  pub forks : TellsSelectors rules (test_of x.forks)
  pub loud : TellsReading rules (λ r. has_own_source r.expr) x.loud
  pub on_le : TellsReading rules names_le x.on_le

-- all is as it is to be
pub record AreReady (o : Opens) : Type 0 where
  pub reads : AreReads (rules_of_opens o) o.reads
  pub marked : AreMarked (rules_of_opens o) o.marked

-- it is of these rules
abbrev pub AreOpens : List RuleTree → Opens → Type 0
AreOpens rules o = (rules ≡ rules_of_opens o) × AreReady o

-- what stands open in some rules, one rule after the other, is put behind a list
abbrev pub IsListOf : List RuleTree → List ℕ → List OpenAt → List OpenAt → Type 0
IsListOf rules numbers before after = (more : List OpenAt) × AreOpenOfEach rules numbers more × (after ≡ before ++ more)
