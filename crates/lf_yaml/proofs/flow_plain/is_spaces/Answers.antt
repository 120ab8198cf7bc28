use Rattle.std.proofs.Common.{arith}
use Rattle.lf_yaml.proofs.PlainLines.{spaces-none, spaces-some}
use Rattle.lf_yaml.proofs.flow_plain.is_spaces.Goals as goal

pub returns-in-empty : goal.returns-in-empty
returns-in-empty c = λ at feed. spaces-none at c.spaces.result feed c.args.line.now c.past.result.now (c.spaces.ensures.after at) c.past.ensures c.in-empty.len_below

pub returns-in-len1-up : goal.returns-in-len1-up
returns-in-len1-up c = λ at feed. spaces-some at c.spaces.result feed c.args.line.now c.past.result.now (c.spaces.ensures.after at) c.past.ensures (omega (arith, c.in-len1-up.len_at_least))
