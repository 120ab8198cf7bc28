use Rattle.std.proofs.Common.{◌+◌, get_or}
use Rattle.lf_scalar.specs.Cells.{cell, cells}
use Rattle.lf_yaml.proofs.Edges.{no-tail, all-tail}
use Rattle.lf_yaml.proofs.document.is_tail.Goals as goal

pub returns-in-Some : goal.returns-in-Some
returns-in-Some c = λ at. no-tail (cells at c.args.text.now) (cell (get_or c.args.text.now c.in-Some.field-0 0) (at + c.in-Some.field-0)) (c.in-Some.ensures.value at)

pub returns-in-None : goal.returns-in-None
returns-in-None c = λ at. all-tail (cells at c.args.text.now) (c.in-None.ensures.value at)
