-- What is built for an expression: series and steps, and how one part comes behind the other.
use Rattle.std.specs.Prelude.{ℕ, ◌+◌, not, List, [], ◌∷◌, ◌++◌, Option, Some, option_and_then, option_map}
use Rattle.std.specs.List.{filter}
use Rattle.std.specs.Ordering.{is_eq}
use Rattle.lf_ast.specs.Labels.{Labels}
use Rattle.lf_ast.specs.LabelOrder.{labels_cmp}
use Rattle.lf_trials.specs.Given.{Given}

-- what is built: series and steps in the order in which they are added, and how many selectors were built, one that was built twice being two
pub record Building : Type 0 where
  pub series : List Labels
  pub steps : List ℕ
  pub selectors : ℕ

-- what is built from texts of labels, if there is such a world
abbrev pub Builder : Type 0
Builder = Given → Option Building

-- nothing is added
abbrev pub nothing : Option Building
nothing = Some (record { series = []; steps = []; selectors = 0 })

-- one and then the other
abbrev pub both : Building → Building → Building
both a b = record { series = a.series ++ b.series; steps = a.steps ++ b.steps; selectors = a.selectors + b.selectors }

abbrev pub and_then : Option Building → Option Building → Option Building
and_then a b = option_and_then (λ x. option_map (both x) b) a

-- a selector of a scraped name
abbrev pub with_series : Labels → Option Building
with_series s = Some (record { series = s ∷ []; steps = []; selectors = 1 })

-- a selector of a recorded name
abbrev pub one_more : Building → Building
one_more b = record { series = b.series; steps = b.steps; selectors = b.selectors + 1 }

-- the step of a rule behind what was built for its expression
abbrev pub with_step : ℕ → Building → Building
with_step k b = record { series = b.series; steps = b.steps ++ k ∷ []; selectors = b.selectors }

-- label sets, each once, in the order in which they come first
abbrev pub each_once : List Labels → List Labels
each_once [] = []
each_once (s ∷ later) = s ∷ filter (λ t. not (is_eq (labels_cmp t s))) (each_once later)
