use Rattle.std.proofs.Common.{◌⊎◌, ◌<◌, ℕ, length, vec_len}
use Rattle.std.specs.List.{Contains}
use Rattle.lf_ast.specs.Rules.{rule_trees}
use Rattle.lf_uniform.specs.views.Lines.{AreEntries, IsSettled}
use Rattle.lf_uniform.proofs.line.Line.of.Given as goal

abbrev pub invariant-loop-left : goal.invariant-loop-left
invariant-loop-left l = record {
  entries : AreEntries (rule_trees l.rules) l.line;
  each : (k : ℕ) → Contains l.numbers k → Contains l.left.items k ⊎ IsSettled (rule_trees l.rules) l.line.names k;
  below : (k : ℕ) → Contains l.left.items k → k < length l.rules;
}

abbrev pub decreases-loop-left : goal.decreases-loop-left
decreases-loop-left l = vec_len l.left
