use Rattle.std.proofs.Common.{◌≡◌, reverse, length}
use Rattle.lf_sizes.specs.views.Size.{plus_each, state_of, total}
use Rattle.lf_sizes.proofs.size.Reader.total.Given as goal

abbrev pub invariant-loop-before : goal.invariant-loop-before
invariant-loop-before l = plus_each l.size (reverse l.outer) ≡ total (state_of l.fn.self)

abbrev pub decreases-loop-before : goal.decreases-loop-before
decreases-loop-before l = length l.outer
