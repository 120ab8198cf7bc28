use Rattle.std.proofs.Common.{◌≡◌, map, take}
use Rattle.lf_built.proofs.marking.chosen.Given as goal

abbrev pub invariant-loop-label : goal.invariant-loop-label
invariant-loop-label g l = l.marks ≡ map (g.C.LabelChoice.chooses l.choice) (take l.label l.names)
