use Rattle.std.proofs.Common.{◌≡◌, ◌+◌, length, map, take}
use Rattle.lf_classes.proofs.universe.counts.Given as goal

abbrev pub invariant-loop-classes : goal.invariant-loop-classes
invariant-loop-classes l = l.counts.items ≡ map (λ texts. length texts + 2) (take l.classes-index l.named)
