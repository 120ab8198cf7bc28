use Rattle.std.proofs.Common.{take}
use Rattle.lf_ast.specs.Rules.{rule_trees}
use Rattle.lf_judge.specs.Judged.{files_of}
use Rattle.lf_judge.specs.views.NamePositions.{AreNamePositions, IsPositionIn}
use Rattle.lf_judge.proofs.name_positions.name_positions.Given as goal

abbrev pub invariant-loop-rule : goal.invariant-loop-rule
invariant-loop-rule l = record {
  position : IsPositionIn (files_of l.files) l.file l.at;
  positions_are : AreNamePositions (files_of l.files) (rule_trees (take l.rule-index l.rules)) l.positions.items;
}
