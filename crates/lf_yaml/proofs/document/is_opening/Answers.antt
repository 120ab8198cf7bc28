use Rattle.std.proofs.Common.{sym, ◌∙◌}
use Rattle.lf_yaml.proofs.Edges.{opening-by}
use Rattle.lf_yaml.proofs.document.is_opening.Goals as goal

pub returns-then-indent-eq0 : goal.returns-then-indent-eq0
returns-then-indent-eq0 c = opening-by c.args.row c.is_opening_text.result c.args.row.full (sym c.indent.ensures ∙ c.if-indent-eq0.true) (c.is_opening_text.ensures c.args.row.at)
