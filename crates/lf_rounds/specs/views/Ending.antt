-- How a round ends.
use Rattle.std.specs.Prelude.{◌≡◌, ℕ, List, length}
use Rattle.lf_ast.specs.Rules.{rule_trees}
use Rattle.lf_classes.specs.RowWords.{WordsLeq}
use Rattle.lf_rounds.specs.Facts.{RoundFacts, task}
use Rattle.lf_rounds.specs.Tasks.{HoldRules, IsBelowLeast, IsTask}

-- The words lie between those at the start and the least environment, and hold what each recording rule stores over the start.
pub record EndsRound (round : RoundFacts) (words : List ℕ) : Type 0 where
  pub task : IsTask (task round)
  pub wide : length words ≡ length round.start
  pub above : WordsLeq round.start words
  pub held : HoldRules round.universe (rule_trees round.rules) words round.start
  pub below : IsBelowLeast round.universe (rule_trees round.rules) words
