use Rattle.std.proofs.Common.{◌≡◌, ◌<◌, ◌+◌, drop}
use Rattle.lf_scalar.specs.Cells.{cells}
use Rattle.lf_scalar.specs.reading.Quoted.{told}
use Rattle.lf_scalar.proofs.Numbers.{most}
use Rattle.lf_scalar.proofs.escapes.number.Given as goal

abbrev pub invariant-loop-byte : goal.invariant-loop-byte
invariant-loop-byte l = (l.value < most l.byte-index) × (told 0 (cells l.at l.digits) ≡ told l.value (cells (l.at + l.byte-index) (drop l.byte-index l.digits)))
