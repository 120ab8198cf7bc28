use Rattle.std.proofs.Common.{◌≡◌, Some}
use Rattle.std.specs.Prelude.{slice_get}
use Rattle.lf_ast.specs.Rules.{RuleTree, rule_trees}
use Rattle.lf_candidates.specs.views.ClassTexts.{StandsBefore}
use Rattle.lf_uniform.specs.views.Texts.{first_texts}
use Rattle.lf_uniform.proofs.texts.first_texts.Given as goal

abbrev pub invariant-loop-label : goal.invariant-loop-label
invariant-loop-label l =
    (own : RuleTree) → slice_get (rule_trees l.setting.rules) l.number ≡ Some own → StandsBefore l.setting.universe l.initial.texts l.label l.texts (first_texts l.setting.universe (rule_trees l.setting.rules) l.number own)
