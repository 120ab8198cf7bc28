use Rattle.std.proofs.Common.{◌≡◌, take}
use Rattle.std.specs.List.{filter}
use Rattle.lf_ast.specs.Rules.{rule_trees}
use Rattle.lf_rounds.specs.Tasks.{is_recording}
use Rattle.lf_rounds.proofs.round.making.recording_rules_by.Given as goal

abbrev pub invariant-loop-number : goal.invariant-loop-number
invariant-loop-number l = l.pieces ≡ filter (is_recording (rule_trees l.rules)) (take l.number-index l.number-items)
