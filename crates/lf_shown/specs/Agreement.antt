-- Stored samples that agree on some names, and what a world that is built gives over samples that agree with it.
use Rattle.std.specs.Prelude.{◌≡◌, ◌⊎◌, ◌≤◌, ◌+◌, ℕ, false, List, [], ◌∷◌, Some, slice_get}
use Rattle.std.specs.List.{Contains}
use Rattle.lf_ast.specs.Labels.{Bytes, Labels}
use Rattle.lf_ast.specs.Rules.{RuleTree}
use Rattle.lf_ast.specs.Selectors.{metric}
use Rattle.lf_semantics.specs.Listing.{AreDistinct}
use Rattle.lf_semantics.specs.Texts.{value_of}
use Rattle.lf_witness.specs.Strict.{Outcomes}
use Rattle.lf_witness.specs.StrictRuns.{StrictlyStored, rules_at}
use Rattle.lf_trials.specs.Building.{Building}
use Rattle.lf_trials.specs.Built.{selector_count}

-- some metric names
abbrev pub MetricNames : Type 1
MetricNames = Bytes → Type 0

-- the same samples under these names
abbrev pub AgreeOn : MetricNames → List Labels → List Labels → Type 0
AgreeOn Read W V = (s : Labels) → Read (value_of s metric) → (Contains W s → Contains V s) × (Contains V s → Contains W s)

-- the same samples, and further ones under these names
pub record Extends (Read : MetricNames) (W V : List Labels) : Type 0 where
  pub kept : (s : Labels) → Contains W s → Contains V s
  pub further : (s : Labels) → Contains V s → Contains W s ⊎ Read (value_of s metric)

-- What is built gives one sample of the outcome f alone. Its series and steps are of names that are read, and each rule has one step; there are at most so many selectors
-- as the expression has, and those of the rules of the steps. Over any samples that agree with the series on the names that are read the steps evaluate strictly, and over any
-- samples that agree with what is stored then f gives the one sample.
pub record Gives (rules : List RuleTree) (Read : MetricNames) (count : ℕ) (b : Building) (f : List Labels → Outcomes) (one : Labels) : Type 0 where
  pub series_read : (s : Labels) → Contains b.series s → Read (value_of s metric)
  pub steps_read : (k : ℕ) → Contains b.steps k → (r : RuleTree) × (slice_get rules k ≡ Some r) × (r.alert ≡ false) × Read r.name
  pub steps_once : AreDistinct b.steps
  pub few : b.selectors ≤ count + selector_count rules b.steps
  pub runs : (W : List Labels) → AgreeOn Read W b.series
      → (V : List Labels) × StrictlyStored W (rules_at rules b.steps) (Some V) × Extends Read W V × ((X : List Labels) → AgreeOn Read X V → f X (Some (one ∷ [])))
