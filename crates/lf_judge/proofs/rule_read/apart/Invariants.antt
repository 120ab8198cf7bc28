use Rattle.std.proofs.Common.{◌≡◌, ◌++◌, length, map, reverse}
use Rattle.lf_judge.proofs.FoundTogether.{findings_read, row_read}
use Rattle.lf_judge.proofs.rule_read.apart.Given as goal

abbrev pub invariant-loop-rule : goal.invariant-loop-rule
invariant-loop-rule l = record { rows : map row_read l.initial.read ≡ map row_read l.read ++ reverse l.rows.items; findings : map findings_read l.initial.read ≡ map findings_read l.read ++ reverse l.findings.items }

abbrev pub decreases-loop-rule : goal.decreases-loop-rule
decreases-loop-rule l = length l.read
