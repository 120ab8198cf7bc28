-- What each rule selects, and which rules record each name.
use Rattle.std.specs.Prelude.{◌≡◌, ℕ, List, map, Option}
use Rattle.lf_ast.specs.Labels.{Bytes}
use Rattle.lf_ast.specs.Rules.{RuleTree}
use Rattle.lf_semantics.specs.Environments.{recorded_names, records}
use Rattle.lf_deps.specs.Reading.{selectors}
use Rattle.lf_deps.specs.views.Search.{numbers_of}

pub record Sources : Type 0 where
  pub selected : List (List (Option Bytes))
  pub names : List Bytes
  pub makers : List (List ℕ)

-- the selectors of each rule, the recorded names, each once, and the numbers of the rules that record each
pub record IsSourcesOf (rules : List RuleTree) (s : Sources) : Type 0 where
  pub selected : s.selected ≡ map (λ (r : RuleTree). selectors r.expr) rules
  pub names : s.names ≡ recorded_names rules
  pub makers : s.makers ≡ map (λ name. numbers_of (records name) 0 rules) s.names
