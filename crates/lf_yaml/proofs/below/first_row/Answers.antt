use Rattle.lf_yaml.proofs.FileRows.{row-of-file}
use Rattle.lf_yaml.proofs.below.first_row.Goals as goal

pub returns-clause-row : goal.returns-clause-row
returns-clause-row c = row-of-file c.args.source.bytes.now c.args.next c.next_row.result c.next_row.ensures.rows c.next_row.ensures.boundary c.next_row.ensures.text
