use Rattle.std.proofs.Common.{◌≡◌, vec_len}
use Rattle.lf_parse.specs.reading.Machine.{reduce}
use Rattle.lf_ast.specs.Tree.{tree}
use Rattle.lf_parse.specs.views.Values.{frames_of}
use Rattle.lf_parse.proofs.reduce.reduce.Given as goal

abbrev pub invariant-loop-operand : goal.invariant-loop-operand
invariant-loop-operand l = reduce l.least l.end (frames_of l.stack.items) (tree l.operand) ≡ reduce l.least l.end (frames_of l.fn.stack.items) (tree l.fn.operand)

abbrev pub decreases-loop-operand : goal.decreases-loop-operand
decreases-loop-operand l = vec_len l.stack
