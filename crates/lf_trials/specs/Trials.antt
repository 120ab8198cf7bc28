-- Trials: what shows that a label can be present, or absent, on a sample of a rule.
use Rattle.std.specs.Prelude.{◌≡◌, ◌⊎◌, ℕ, Bool, List, Some, slice_get}
use Rattle.std.specs.List.{find}
use Rattle.lf_ast.specs.Labels.{Bytes, Labels}
use Rattle.lf_ast.specs.Rules.{RuleTree}
use Rattle.lf_semantics.specs.Listing.{Listing}
use Rattle.lf_semantics.specs.RowTable.{Environment}
use Rattle.lf_semantics.specs.Texts.{value_of}
use Rattle.lf_trials.specs.Built.{IsBuilt}
use Rattle.lf_trials.specs.Candidates.{has_presence}
use Rattle.lf_trials.specs.Reached.{Trial}
use Rattle.lf_trials.specs.Uniform.{IsUniform}
use Rattle.lf_witness.specs.StrictRuns.{IsRuleAnswer, IsRunAnswer, rules_at}

-- a trial and the sample that it shows
pub record Shown : Type 0 where
  pub trial : Trial
  pub sample : Labels

-- the steps of the trial and then rule i evaluate strictly, and the sample is the first that has the presence
pub record Shows (rules : List RuleTree) (i : ℕ) (label : Bytes) (presence : Bool) (shown : Shown) : Type 0 where
  pub rule : RuleTree
  pub is_rule : slice_get rules i ≡ Some rule
  pub stored : List Labels
  pub is_stored : IsRunAnswer shown.trial.series (rules_at rules shown.trial.steps) (Some stored)
  pub samples : List Labels
  pub are_samples : IsRuleAnswer stored rule (Some samples)
  pub is_sample : find (λ s. has_presence presence (value_of s label)) samples ≡ Some shown.sample

module _ (u : Listing) (env : Environment) (rules : List RuleTree) (i : ℕ) (label : Bytes) (presence : Bool) where
  -- by the built world
  abbrev pub ShowsBuilt : Shown → Type 0
  ShowsBuilt shown = IsBuilt u env rules i label presence shown.trial × Shows rules i label presence shown

  -- by the uniform world
  abbrev pub ShowsUniform : Shown → Type 0
  ShowsUniform shown = IsUniform u rules i label presence shown.trial × Shows rules i label presence shown

  -- by the first trial that shows it: the built world, or else the uniform one
  abbrev pub IsFirstShown : Shown → Type 0
  IsFirstShown shown = ShowsBuilt shown ⊎ (((other : Shown) → ShowsBuilt other → ⊥) × ShowsUniform shown)

  -- no trial shows it
  abbrev pub IsNotShown : Type 0
  IsNotShown = (shown : Shown) → IsFirstShown shown → ⊥
