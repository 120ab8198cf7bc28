use Rattle.std.proofs.Common.{◌≡◌}
use Rattle.lf_scalar.specs.Cells.{cells}
use Rattle.lf_yaml.specs.Rows.{left_of}
use Rattle.lf_yaml.proofs.RowCode.{left_from}
use Rattle.lf_yaml.proofs.head.left.Given as goal

abbrev pub invariant-loop-i : goal.invariant-loop-i
invariant-loop-i l = left_from l.begin l.at l.text l.i ≡ left_of l.begin (cells l.at l.text)
