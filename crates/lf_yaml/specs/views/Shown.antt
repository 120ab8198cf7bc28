-- How contracts see the code's rows. It defines nothing of trees.
use Rattle.std.specs.Prelude.{suc, drop, get_or}
use Rattle.lf_scalar.specs.Cells.{cell, cells}
use Rattle.lf_yaml.specs.Rows.{ContentRow, row}
use Rattle.lf_yaml.specs.declared.row.ContentLine.{ContentLine}

abbrev pub shown : ContentLine → ContentRow
shown r = row r.begin (cell (get_or r.text.now 0 0) r.at) (cells (suc r.at) (drop 1 r.text.now))
