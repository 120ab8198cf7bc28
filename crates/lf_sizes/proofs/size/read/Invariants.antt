use Rattle.std.proofs.Common.{◌≡◌, drop}
use Rattle.lf_sizes.specs.views.Size.{size_from, start, state_of}
use Rattle.lf_sizes.proofs.size.read.Given as goal

abbrev pub invariant-loop-byte : goal.invariant-loop-byte
invariant-loop-byte l = size_from (state_of l.reader) (drop l.byte-index l.bytes) ≡ size_from (start l.fn.weights) l.bytes
