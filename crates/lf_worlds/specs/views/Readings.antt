-- What rules read, as the trials of all rules share it: how contracts see the code. It defines nothing.
use Rattle.std.specs.Prelude.{List}
use Rattle.lf_ast.specs.Rules.{RuleTree}
use Rattle.lf_deps.specs.views.Names.{IsNameGraphOf}
use Rattle.lf_deps.specs.views.Sources.{IsSourcesOf, Sources}
use Rattle.lf_graph.specs.Components.{Components}
use Rattle.lf_forks.specs.views.ForkTests.{TellsSelectors}
use Rattle.lf_forks.specs.views.Holding.{Forks, test_of}
use Rattle.lf_worlds.specs.declared.readings.Readings.{Readings}

-- the rules read this: their index, the graph of its names, and which of their selectors are forks or are made by one
pub record AreReadingsBy (rules : List RuleTree) (s : Sources) (g : Components) (f : Forks) : Type 0 where
  pub sources : IsSourcesOf rules s
  pub graph : IsNameGraphOf s g
  pub forks : TellsSelectors rules (test_of f)

abbrev pub AreReadingsOf : List RuleTree → Readings → Type 0
AreReadingsOf rules r = AreReadingsBy rules r.sources r.graph r.forks
