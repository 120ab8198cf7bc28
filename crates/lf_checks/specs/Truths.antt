-- What a finding claims of every world of the rules.
use Rattle.std.specs.Prelude.{◌≡◌, List, [], ◌∷◌, ◌++◌}
use Rattle.std.specs.List.{Contains}
use Rattle.lf_ast.specs.Labels.{Bytes, Labels}
use Rattle.lf_ast.specs.Rules.{RuleTree}
use Rattle.lf_ast.specs.Tree.{Tree, nodes}
use Rattle.lf_ast.specs.declared.expr.Name.{Name}
use Rattle.lf_semantics.specs.Evaluation.{Evaluates}
use Rattle.lf_semantics.specs.Texts.{Has}
use Rattle.lf_semantics.specs.Worlds.{IsSample, Step, World, added}
use Rattle.lf_checks.specs.AlertTemplate as alert_template
use Rattle.lf_checks.specs.Finding.{Check, AlertTemplate, MatchLabel, ExprEmpty, ExprType, RuleLabel, Finding}
use Rattle.lf_checks.specs.MatchLabel as match_label
use Rattle.lf_checks.specs.RuleLabel as rule_label

-- no sample of the rule, in any world, has the label
abbrev pub IsOnNone : List RuleTree → RuleTree → Bytes → Type 0
IsOnNone rules r label = (world : World rules) (s : Labels) → IsSample world r s → Has s label → ⊥

-- each sample of the rule, in every world, has the label
abbrev pub IsOnEach : List RuleTree → RuleTree → Bytes → Type 0
IsOnEach rules r label = (world : World rules) (s : Labels) → IsSample world r s → Has s label

-- the rule has no sample in any world
abbrev pub HasNoSample : List RuleTree → RuleTree → Type 0
HasNoSample rules r = (world : World rules) (s : Labels) → IsSample world r s → ⊥

-- what steps record, one after the other
abbrev pub recorded : List Step → List Labels
recorded [] = []
recorded (step ∷ steps) = added step ++ recorded steps

-- at no point of the run of any world the expression may give a sample with the label, over the world's series and what was recorded up to there
abbrev pub IsNeverGiven : List RuleTree → Tree → Bytes → Type 0
IsNeverGiven rules e label =
    (world : World rules) (before after : List Step) → world.steps ≡ before ++ after → (R : List Labels) (s : Labels) → Evaluates world.series (recorded before) e R
    → Contains R s → Has s label → ⊥

-- in the rule's expression the label is sought on an operand that never gives it
abbrev pub IsSoughtInVain : List RuleTree → RuleTree → Bytes → Type 0
IsSoughtInVain rules r label = (e : Tree) × (sought : Name) × (operand : Tree) × Contains (nodes r.expr) e × match_label.Seeks e sought operand × (sought.text ≡ label) × IsNeverGiven rules operand label

-- what a finding of the check claims by its text. The checks that aren't named here speak of the text of rules alone
abbrev pub Claims : List RuleTree → RuleTree → Check → Bytes → Type 0
Claims rules r AlertTemplate text = (label : Bytes) → text ≡ alert_template.says_never label → IsOnNone rules r label
Claims rules r MatchLabel text = (label : Bytes) → text ≡ match_label.says_never label → IsSoughtInVain rules r label
Claims rules r ExprEmpty text = HasNoSample rules r
Claims rules r ExprType text = HasNoSample rules r
Claims rules r RuleLabel text =
    ((label : Bytes) → text ≡ rule_label.says_replaced label → IsOnEach rules r label) × ((label : Bytes) → text ≡ rule_label.says_removed label → IsOnNone rules r label)
Claims rules r _ text = Unit {0}

-- the finding of the rule is true
abbrev pub IsTrueFinding : List RuleTree → RuleTree → Finding → Type 0
IsTrueFinding rules r f = Claims rules r f.check f.text
