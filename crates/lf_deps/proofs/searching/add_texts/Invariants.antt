use Rattle.std.proofs.Common.{take}
use Rattle.lf_deps.specs.views.Search.{Grows}
use Rattle.lf_deps.proofs.searching.add_texts.Given as goal

abbrev pub invariant-loop-k : goal.invariant-loop-k
invariant-loop-k l = Grows (take l.k l.names) l.fn.texts l.texts
