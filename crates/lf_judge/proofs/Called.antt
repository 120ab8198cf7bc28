-- A rule is called empty exactly where its row is, whatever the verdicts on its labels are.
use Rattle.std.proofs.Common.{◌≡◌, ℕ, Bool, not, List, Some, ap, ◌∙◌}
use Rattle.std.specs.Prelude.{slice_get}
use Rattle.lf_ast.specs.Rules.{RuleTree}
use Rattle.lf_semantics.specs.ClassRows.{is_live}
use Rattle.lf_semantics.specs.Environments.{rule_row}
use Rattle.lf_semantics.specs.Listing.{Listing, universe_of}
use Rattle.lf_semantics.specs.RowTable.{Environment}
use Rattle.lf_trials.specs.Verdicts.{IsRuleVerdict, RuleVerdict, Empty, Labels}
use Rattle.lf_trials.proofs.SomeVerdict.{some_verdict}
use Rattle.lf_judge.specs.Judged.{is_empty}
use Rattle.lf_judge.specs.views.Checking.{TellsEmpty}

called_empty : (u : Listing) (env : Environment) (rules : List RuleTree) (i : ℕ) (r : RuleTree) (v : RuleVerdict) → IsRuleVerdict u env rules i r v → not (is_live (rule_row u env r)) ≡ is_empty v
called_empty u env rules i r Empty h = ap not h
called_empty u env rules i r (Labels verdicts) h = ap not h.0

-- what the row of the rule tells
pub tells_empty : (rules : List RuleTree) (env : Environment) (i : ℕ) (r : RuleTree) (empty : Bool) → slice_get rules i ≡ Some r → empty ≡ not (is_live (rule_row (universe_of rules) env r)) → TellsEmpty rules env i r empty
tells_empty rules env i r empty there is =
    let u = universe_of rules in
    let v = some_verdict u env rules i r there in
    (v.0, v.1, is ∙ called_empty u env rules i r v.0 v.1)
