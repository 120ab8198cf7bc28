-- What the uniform worlds of a rule share, as the code has it.
use Rattle.std.specs.Prelude.{◌≡◌, ◌≤◌, ℕ, List, length, Option, Some, None, slice_get}
use Rattle.lf_ast.specs.Rules.{RuleTree}
use Rattle.lf_ast.specs.declared.rule.Rule.{Rule}
use Rattle.lf_classes.specs.Limits.{IsWithin}
use Rattle.lf_semantics.specs.Listing.{Listing}
use Rattle.lf_candidates.specs.views.ClassTexts.{Stands}
use Rattle.lf_trials.specs.Candidates.{labels_in}
use Rattle.lf_trials.specs.Reached.{IsReach, with_reach}
use Rattle.lf_trials.specs.Selected.{selected_by}
use Rattle.lf_trials.specs.Uniform.{SelectsCyclic, series_names}
use Rattle.lf_uniform.specs.declared.uniform.Shared.{Shared}
use Rattle.lf_uniform.specs.views.Texts.{first_texts}
use Rattle.lf_uniform.specs.views.Ways.{IsWay}

pub record Uniform : Type 0 where
  pub universe : Listing
  pub rules : List Rule
  pub number : ℕ

module _ (u : Listing) (rules : List RuleTree) (number : ℕ) (reach : List ℕ) where
  pub record IsPrepared (own : RuleTree) (shared : Shared) : Type 0 where
    pub within : IsWithin u
    pub way : IsWay rules number shared.line
    pub labels : shared.labels.items ≡ labels_in u
    pub texts : Stands u shared.texts (first_texts u rules number own)
    pub names : shared.names ≡ series_names u rules (selected_by rules (with_reach number reach))

  -- something is shared where there may be a world, and nothing where there is none
  abbrev pub IsSharedBy : RuleTree → Option Shared → Type 0
  IsSharedBy own None = length reach ≤ 256 → (SelectsCyclic rules (with_reach number reach) → ⊥) → ⊥
  IsSharedBy own (Some shared) = (length reach ≤ 256) × (SelectsCyclic rules (with_reach number reach) → ⊥) × IsPrepared own shared

  pub record ArePrepared (shared : Option Shared) : Type 0 where
    pub own : RuleTree
    pub at : slice_get rules number ≡ Some own
    pub is_reach : IsReach rules own.expr reach
    pub is_shared : IsSharedBy own shared
