use Rattle.std.proofs.Common.{◌≡◌, map, take}
use Rattle.lf_built.specs.views.Marking.{side_mark}
use Rattle.lf_built.proofs.marking.side_marks.Given as goal

abbrev pub invariant-loop-label : goal.invariant-loop-label
invariant-loop-label l = l.marks ≡ map (side_mark l.op l.matching) (take l.label l.names)
