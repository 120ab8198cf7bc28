use Rattle.std.proofs.Common.{length}
use Rattle.lf_weights.specs.views.Masks.{AreMasks}
use Rattle.lf_weights.proofs.Passing.{HasSoFar}
use Rattle.lf_weights.proofs.masks.masks_of.Given as goal

abbrev pub invariant-loop-number : goal.invariant-loop-number
invariant-loop-number l = AreMasks (length l.nexts) (HasSoFar l.nexts l.numbers l.number) l.masks.items
