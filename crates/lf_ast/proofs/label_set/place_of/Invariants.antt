use Rattle.lf_ast.proofs.LabelSets.{IsPassed}
use Rattle.lf_ast.proofs.label_set.place_of.Given as goal

abbrev pub invariant-loop-k : goal.invariant-loop-k
invariant-loop-k l = IsPassed l.name l.entries l.k
