use Rattle.std.proofs.Common.{◌≡◌, ◌<◌, ℕ, Some, false}
use Rattle.std.specs.Prelude.{slice_get}
use Rattle.lf_ast.specs.Rules.{RuleTree, rule_trees}
use Rattle.lf_candidates.specs.views.ClassTexts.{name_at, text_at}
use Rattle.lf_uniform.specs.views.Texts.{is_followed}
use Rattle.lf_uniform.proofs.texts.first_of_all.Given as goal

abbrev pub invariant-loop-class : goal.invariant-loop-class
invariant-loop-class l =
    (own : RuleTree) → slice_get (rule_trees l.setting.rules) l.number ≡ Some own → (j : ℕ) → j < l.class → is_followed l.setting.universe (rule_trees l.setting.rules) l.number own l.wanted (name_at l.setting.universe l.label) (text_at l.setting.universe l.label j) ≡ false
