use Rattle.std.proofs.Common.{◌≡◌, drop}
use Rattle.lf_pattern.specs.ShapeScan.{read_from, start, state_of}
use Rattle.lf_pattern.proofs.shape.read.Given as goal

abbrev pub invariant-loop-c : goal.invariant-loop-c
invariant-loop-c l = read_from (state_of l.reader) (drop l.c-index l.characters) ≡ read_from start l.characters
