use Rattle.std.proofs.Common.{◌≡◌, ◌+◌, ◌≤◌}
use Rattle.lf_scalar.specs.Cells.{cells}
use Rattle.lf_yaml.specs.Keys.{characters}
use Rattle.lf_yaml.proofs.KeyText.{left_at}
use Rattle.lf_yaml.proofs.keys.char_count.Given as goal

abbrev pub invariant-loop-i : goal.invariant-loop-i
invariant-loop-i l = (l.count ≤ l.i) × (l.count + left_at l.text l.i ≡ characters (cells 0 l.text))
