-- Which selectors are forks or are made by one: how contracts see the code, which asks a test of selectors. It defines nothing.
use Rattle.std.specs.Prelude.{◌≡◌, ◌⊎◌, ◌↔◌, Bool, true, false, List, Option, Some, None}
use Rattle.std.specs.List.{Contains}
use Rattle.lf_ast.specs.Labels.{Bytes}
use Rattle.lf_ast.specs.Rules.{RuleTree}
use Rattle.lf_deps.specs.Reading.{Reads, Records}
use Rattle.lf_trials.specs.Forks.{has_own_fork}
use Rattle.lf_trials.specs.Reached.{has_several_rules}

module _ (rules : List RuleTree) where
  -- a rule that records a name, and has a fork in its expression
  pub record IsForkRule (r : RuleTree) : Type 0 where
    pub rule : Contains rules r
    pub recording : r.alert ≡ false
    pub fork : has_own_fork rules r.expr ≡ true

  -- a rule of the name is such a rule, or reads a name that one records
  abbrev pub IsMadeByFork : Bytes → Type 0
  IsMadeByFork name = (r : RuleTree) × IsForkRule r × ((r.name ≡ name) ⊎ ((s : RuleTree) × Contains rules s × Records s name × Reads rules s.expr r.name))

  -- what is selected is a fork, or is made by one; a selector that says no name reads all recorded names
  abbrev pub SelectsFork : Option Bytes → Type 0
  SelectsFork (Some name) = (has_several_rules rules name ≡ true) ⊎ IsMadeByFork name
  SelectsFork None = (r : RuleTree) × IsForkRule r

  -- a test that tells which selectors do
  abbrev pub TellsSelectors : (Option Bytes → Bool) → Type 0
  TellsSelectors test = (o : Option Bytes) → (test o ≡ true) ↔ SelectsFork o
