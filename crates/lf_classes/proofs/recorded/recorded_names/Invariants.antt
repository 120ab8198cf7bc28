use Rattle.std.proofs.Common.{take}
use Rattle.lf_ast.specs.Rules.{rule_trees}
use Rattle.lf_classes.proofs.RecordedNames.{AreRecorded}
use Rattle.lf_classes.proofs.recorded.recorded_names.Given as goal

abbrev pub invariant-loop-rule : goal.invariant-loop-rule
invariant-loop-rule l = AreRecorded l.names (rule_trees (take l.rule-index l.rules))
