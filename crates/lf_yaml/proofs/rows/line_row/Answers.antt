use Rattle.std.proofs.Common.{arith, length-drop, ap, length}
use Rattle.lf_yaml.proofs.rows.line_row.Goals as goal

pub invariant_of-result-clause-full : goal.invariant_of-result-clause-full
invariant_of-result-clause-full c = c.in-len1-up.len_at_least

pub invariant_of-result-clause-order : goal.invariant_of-result-clause-order
invariant_of-result-clause-order c = omega arith

pub invariant_of-result-clause-room : goal.invariant_of-result-clause-room
invariant_of-result-clause-room c = omega (arith, c.requires.room, c.spaces-indent.ensures.within, ap length c.past-rest.ensures, length-drop c.spaces-indent.result c.args.text.now)
