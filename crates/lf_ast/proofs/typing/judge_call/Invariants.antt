use Rattle.std.proofs.Common.{◌≡◌, drop}
use Rattle.lf_ast.specs.reading.Judging.{arguments_fault, call_of, own_fault}
use Rattle.lf_ast.specs.Tree.{trees}
use Rattle.lf_ast.proofs.typing.judge_call.Given as goal

abbrev pub invariant-loop-k : goal.invariant-loop-k
invariant-loop-k l = arguments_fault (trees (drop l.k l.args)) (call_of l.call) l.fault l.k ≡ arguments_fault (trees l.args) (call_of l.call) (own_fault (call_of l.call)) 0
