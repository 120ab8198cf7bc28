use Rattle.std.proofs.Common.{take}
use Rattle.std.specs.List.{sum_by}
use Rattle.lf_accept.specs.Allowance.{TakesAllowance, count_of}
use Rattle.lf_accept.specs.Patterns.{texts_at}
use Rattle.lf_accept.proofs.allowance.PatternAllowance.take_each.Given as goal

abbrev pub invariant-loop-pattern : goal.invariant-loop-pattern
invariant-loop-pattern l = TakesAllowance (sum_by count_of (texts_at (take l.pattern-index l.patterns))) l.initial.self l.self
