use Rattle.std.proofs.Common.{◌≡◌, ◌+◌, ◌-◌, ℕ, take, drop}
use Rattle.lf_scalar.specs.Cells.{cells}
use Rattle.lf_yaml.specs.Flow.{colon_in}
use Rattle.lf_yaml.proofs.ColonScan.{colon_from}
use Rattle.lf_yaml.proofs.flow_text.find_colon.Given as goal

abbrev pub invariant-loop-i : goal.invariant-loop-i
invariant-loop-i l = (at : ℕ) → colon_from at l.text l.len l.i ≡ colon_in (cells at (take l.len l.text)) (cells (at + l.len) (drop l.len l.text))

abbrev pub decreases-loop-i : goal.decreases-loop-i
decreases-loop-i l = l.len - l.i
