use Rattle.lf_ast.specs.Rules.{rule_trees}
use Rattle.lf_open.specs.views.Marks.{AreMarksUpTo}
use Rattle.lf_open.proofs.marks.marks_of.Given as goal

abbrev pub invariant-loop-k : goal.invariant-loop-k
invariant-loop-k l = AreMarksUpTo (rule_trees l.rules) l.chosen l.k l.marks
