use Rattle.std.proofs.Common.{◌≤◌, length}
use Rattle.lf_built.proofs.row_making.likely_names.Given as goal

abbrev pub invariant-loop-name : goal.invariant-loop-name
invariant-loop-name l = length l.likely.items ≤ 8
