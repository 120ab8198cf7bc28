-- Verdicts: what is known of a label on the samples of a rule, and the trials that show it.
use Rattle.std.specs.Prelude.{◌≡◌, ◌⊎◌, ℕ, Bool, true, false, List, [], ◌∷◌, is_some}
use Rattle.std.specs.List.{find}
use Rattle.lf_ast.specs.Labels.{Bytes}
use Rattle.lf_ast.specs.Rules.{RuleTree}
use Rattle.lf_semantics.specs.ClassRows.{Sets, is_live}
use Rattle.lf_semantics.specs.Environments.{rule_row}
use Rattle.lf_semantics.specs.Listing.{Listing}
use Rattle.lf_semantics.specs.RowTable.{Environment}
use Rattle.lf_trials.specs.Candidates.{candidates_in, has_presence, labels_in}
use Rattle.lf_trials.specs.Trials.{IsFirstShown, IsNotShown, Shown}

-- the row leaves a presence: a candidate that has it lies in the label's set
abbrev pub leaves : Listing → Sets → Bytes → Bool → Bool
leaves u row label presence = is_some (find (has_presence presence) (candidates_in u row label))

pub data LabelVerdict : Type 0 where
  Guaranteed : LabelVerdict
  Impossible : LabelVerdict
  Possible : Shown → Shown → LabelVerdict
  Unresolved : LabelVerdict

-- The verdict on a label, by a row that isn't empty: guaranteed where absence isn't left, and impossible where absence alone is. Where both are left, it is possible with the
-- first trials that show presence and absence, and unresolved where one of them isn't shown.
module _ (u : Listing) (env : Environment) (rules : List RuleTree) (i : ℕ) (row : Sets) (label : Bytes) where
  abbrev pub LeavesBoth : Type 0
  LeavesBoth = (leaves u row label true ≡ true) × (leaves u row label false ≡ true)

  abbrev pub IsLabelVerdict : LabelVerdict → Type 0
  IsLabelVerdict Guaranteed = leaves u row label false ≡ false
  IsLabelVerdict Impossible = (leaves u row label true ≡ false) × (leaves u row label false ≡ true)
  IsLabelVerdict (Possible present absent) = LeavesBoth × IsFirstShown u env rules i label true present × IsFirstShown u env rules i label false absent
  IsLabelVerdict Unresolved = LeavesBoth × (IsNotShown u env rules i label true ⊎ IsNotShown u env rules i label false)

pub data RuleVerdict : Type 0 where
  Empty : RuleVerdict
  Labels : List LabelVerdict → RuleVerdict

module _ (u : Listing) (env : Environment) (rules : List RuleTree) (i : ℕ) where
  -- one verdict for each label
  abbrev pub AreLabelVerdicts : Sets → List Bytes → List LabelVerdict → Type 0
  AreLabelVerdicts row [] [] = Unit {0}
  AreLabelVerdicts row (label ∷ labels) (v ∷ verdicts) = IsLabelVerdict u env rules i row label v × AreLabelVerdicts row labels verdicts
  AreLabelVerdicts row _ _ = ⊥

  -- the verdict on a rule: empty where its row is, and else one for each label of the universe, `*` last
  abbrev pub IsRuleVerdict : RuleTree → RuleVerdict → Type 0
  IsRuleVerdict r Empty = is_live (rule_row u env r) ≡ false
  IsRuleVerdict r (Labels verdicts) = (is_live (rule_row u env r) ≡ true) × AreLabelVerdicts (rule_row u env r) (labels_in u) verdicts
