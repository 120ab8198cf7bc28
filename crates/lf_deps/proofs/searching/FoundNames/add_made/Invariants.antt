use Rattle.std.proofs.Common.{take}
use Rattle.lf_deps.specs.views.Index.{chosen_by}
use Rattle.lf_deps.specs.views.Search.{Grows, HasAll}
use Rattle.lf_deps.proofs.searching.FoundNames.add_made.Given as goal

abbrev pub invariant-loop-k : goal.invariant-loop-k
invariant-loop-k l = record {
  has_all : HasAll l.sources.names l.self.all l.self.texts;
  grows : Grows (chosen_by l.sources (take l.k l.makers)) l.fn.self.texts l.self.texts;
}
