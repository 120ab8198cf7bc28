use Rattle.std.proofs.Common.{arith}
use Rattle.lf_yaml.proofs.Edges.{opening-short}
use Rattle.lf_yaml.proofs.document.is_opening_text.Goals as goal

pub returns-in-len1 : goal.returns-in-len1
returns-in-len1 c = opening-short c.args.text.now (omega arith)

pub returns-in-len2 : goal.returns-in-len2
returns-in-len2 c = opening-short c.args.text.now (omega arith)
