use Rattle.lf_yaml.proofs.RowsFrom.{ends-from, stops-from}
use Rattle.lf_yaml.proofs.rows.lines_from.Goals as goal

pub returns-else-next-source-clause-rows : goal.returns-else-next-source-clause-rows
returns-else-next-source-clause-rows c = stops-from c.args.source.bytes.now c.args.from c.loop-next.next c.args.offset c.if-next-source.false c.loop-next.invariant.0

pub returns-after-loop-next-clause-rows : goal.returns-after-loop-next-clause-rows
returns-after-loop-next-clause-rows c = ends-from c.args.source.bytes.now c.args.from c.loop-next.next c.args.offset c.loop-next-test.false c.loop-next.invariant.0
