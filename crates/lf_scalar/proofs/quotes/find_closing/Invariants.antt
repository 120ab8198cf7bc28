use Rattle.std.proofs.Common.{◌≡◌, cond}
use Rattle.lf_scalar.specs.Cells.{cells}
use Rattle.lf_scalar.specs.reading.Quoted.{closing_of}
use Rattle.lf_scalar.proofs.Scan.{scanned}
use Rattle.lf_scalar.proofs.quotes.find_closing.Given as goal

abbrev pub invariant-loop-i : goal.invariant-loop-i
invariant-loop-i l = scanned l.kind l.at l.line l.i (cond l.skip 1 0) ≡ closing_of l.kind 0 (cells l.at l.line)
