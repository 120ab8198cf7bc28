-- Laws of built worlds that the contracts of code can cite.
use Rattle.std.specs.Prelude.{◌≡◌, ℕ, Bool, true, List, length, Some}
use Rattle.std.specs.List.{Contains}
use Rattle.lf_ast.specs.Labels.{Bytes}
use Rattle.lf_ast.specs.Rules.{RuleTree}
use Rattle.lf_ast.specs.Tree.{Tree}
use Rattle.lf_semantics.specs.Environments.{rule_row}
use Rattle.lf_semantics.specs.Listing.{Listing}
use Rattle.lf_semantics.specs.RowTable.{Environment, row_of}
use Rattle.lf_trials.specs.Building.{Building}
use Rattle.lf_trials.specs.Built.{build, build_by_rule, builder}
use Rattle.lf_trials.specs.Candidates.{labels_in}
use Rattle.lf_trials.specs.Given.{Given, holds_texts, label_set}
use Rattle.lf_trials.specs.Trials.{Shown, ShowsBuilt}
use Rattle.lf_trials.specs.Verdicts.{IsLabelVerdict, Unresolved, leaves}
use Rattle.lf_shown.specs.Alone.{GivesAlone}

module _ (u : Listing) (env : Environment) (rules : List RuleTree) where
  -- for each label of the universe and each presence that the row of rule i leaves, the built world exists and shows it
  abbrev pub ShowsAllLeft : ℕ → RuleTree → Type 0
  ShowsAllLeft i r =
      (label : Bytes) → Contains (labels_in u) label → (presence : Bool) → leaves u (rule_row u env r) label presence ≡ true → (shown : Shown) × ShowsBuilt u env rules i label presence shown

  -- no label of the universe stays unresolved for rule i
  abbrev pub ResolvesEach : ℕ → RuleTree → Type 0
  ResolvesEach i r = (label : Bytes) → Contains (labels_in u) label → IsLabelVerdict u env rules i (rule_row u env r) label Unresolved → ⊥

  -- each label of the universe has a text
  abbrev pub GivesEach : Given → Type 0
  GivesEach D = (name : Bytes) → Contains (labels_in u) name → (text : Bytes) × (D name ≡ Some text)

  -- each choice of a text for each label that the row of an expression holds is given alone by what is built for it, where some rules are marked
  abbrev pub GivesEachAlone : (Tree → Bool) → List ℕ → Tree → Type 0
  GivesEachAlone holds_fork marked e =
      (D : Given) → GivesEach D → holds_texts u (row_of u env e) D ≡ true
      → (built : Building) × (build u env rules holds_fork e (builder u env rules holds_fork (build_by_rule u env rules holds_fork (length rules) marked) e) D ≡ Some built) × GivesAlone rules e built (label_set (labels_in u) D)
