use Rattle.std.proofs.Common.{◌-◌, ◌^◌, List, Option}
use Rattle.lf_ast.specs.Labels.{Bytes}
use Rattle.lf_ast.specs.Rules.{RuleTree}
use Rattle.lf_deps.specs.views.Search.{HasAll, IsSearch}
use Rattle.lf_deps.specs.views.Sources.{IsSourcesOf}
use Rattle.lf_deps.proofs.searching.FoundNames.follow_all.Given as goal

abbrev pub invariant-loop-next : goal.invariant-loop-next
invariant-loop-next l = record {
  has_all : HasAll l.sources.names l.self.all l.self.texts;
  search : (rules : List RuleTree) (start : List (Option Bytes)) → IsSourcesOf rules l.sources → IsSearch rules start l.fn.self.texts 0 → IsSearch rules start l.self.texts l.next;
}

abbrev pub decreases-loop-next : goal.decreases-loop-next
decreases-loop-next l = 2 ^ 63 - l.next
