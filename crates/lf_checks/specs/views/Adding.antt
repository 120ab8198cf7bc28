-- Lists of findings that grow by the findings that meet a condition.
use Rattle.std.specs.Prelude.{List}
use Rattle.lf_laws.specs.Gaining.{Gains}
use Rattle.lf_ast.specs.Rules.{RuleTree}
use Rattle.lf_ast.specs.declared.verdict.Finding.{Finding as Row}
use Rattle.lf_checks.specs.Files.{File}
use Rattle.lf_checks.specs.Finding.{Finding}
use Rattle.lf_checks.specs.views.Shown.{NumberedAlone, all_shown}

-- the list gains the findings that meet the condition, over whatever files and rules; and what is new has the numbers of what it says
pub record Adds (is : Finding → Type 0) (old new : List Row) : Type 0 where
  pub gains : (files : List File) (rules : List RuleTree) → Gains (all_shown files rules) is old new
  pub numbers : NumberedAlone old → NumberedAlone new
