use Rattle.lf_semantics.specs.ClassRows.{holds}
use Rattle.lf_flow.specs.views.ClassSets.{IsSet}
use Rattle.lf_flow.proofs.replacing.classes_in.Given as goal

abbrev pub invariant-loop-class : goal.invariant-loop-class
invariant-loop-class l = IsSet l.class (holds l.row l.label) l.on.items
