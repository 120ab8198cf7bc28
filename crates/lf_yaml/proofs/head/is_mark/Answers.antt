use Rattle.std.proofs.Common.{sym, ◌∙◌, true, false, arith, refl}
use Rattle.lf_scalar.specs.Markers.{is_thrice}
use Rattle.lf_scalar.specs.Cells.{cells}
use Rattle.lf_yaml.proofs.RowCode.{mark-by}
use Rattle.lf_yaml.proofs.head.is_mark.Goals as goal

pub returns-then-is_thrice : goal.returns-then-is_thrice
returns-then-is_thrice c =
    sym (mark-by c.args.row true (is_thrice 46 (cells c.args.row.at c.args.row.text.now)) c.args.row.full (omega (arith, c.if-indent-ne0.false)) (sym (c.is_thrice.ensures c.args.row.at) ∙ c.if-is_thrice.true) refl)

pub returns-then-is_thrice-2 : goal.returns-then-is_thrice-2
returns-then-is_thrice-2 c =
    sym (mark-by c.args.row false true c.args.row.full (omega (arith, c.if-indent-ne0.false)) (sym (c.is_thrice.ensures c.args.row.at) ∙ c.if-is_thrice.false) (sym (c.is_thrice-2.ensures c.args.row.at) ∙ c.if-is_thrice-2.true))

pub returns : goal.returns
returns c =
    sym (mark-by c.args.row false false c.args.row.full (omega (arith, c.if-indent-ne0.false)) (sym (c.is_thrice.ensures c.args.row.at) ∙ c.if-is_thrice.false) (sym (c.is_thrice-2.ensures c.args.row.at) ∙ c.if-is_thrice-2.false))
