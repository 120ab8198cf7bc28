use Rattle.std.proofs.Common.{take}
use Rattle.lf_deps.specs.views.Search.{Grows, HasAll, chosen_all}
use Rattle.lf_deps.proofs.searching.FoundNames.add_all.Given as goal

abbrev pub invariant-loop-k : goal.invariant-loop-k
invariant-loop-k l = record {
  has_all : HasAll l.sources.names l.self.all l.self.texts;
  grows : Grows (chosen_all l.sources.names (take l.k l.found)) l.fn.self.texts l.self.texts;
}
