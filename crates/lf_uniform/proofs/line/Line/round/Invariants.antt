use Rattle.std.proofs.Common.{take}
use Rattle.lf_ast.specs.Rules.{rule_trees}
use Rattle.lf_uniform.specs.views.Lines.{IsRound}
use Rattle.lf_uniform.proofs.line.Line.round.Given as goal

abbrev pub invariant-loop-number : goal.invariant-loop-number
invariant-loop-number l = IsRound (rule_trees l.rules) l.fn.self (take l.number-index l.numbers) l.self l.later.items
