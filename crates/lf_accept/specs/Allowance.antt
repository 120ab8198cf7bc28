-- How much the patterns of a file may count together.
use Rattle.std.specs.Prelude.{◌≡◌, ◌+◌, ℕ, cond, length}
use Rattle.std.specs.List.{sum_by}
use Rattle.lf_ast.specs.Labels.{Bytes}
use Rattle.lf_ast.specs.Rules.{RuleTree}
use Rattle.lf_ast.specs.Tree.{Tree}
use Rattle.lf_semantics.specs.Passing.{is_plain}
use Rattle.lf_sizes.specs.Sizes.{plus, size_of}
use Rattle.lf_accept.specs.Patterns.{patterns_in}
use Rattle.lf_accept.specs.declared.allowance.PatternAllowance.{PatternAllowance}

-- what the patterns of a file may count
abbrev pub most : ℕ
most = 2000000

-- a plain pattern counts nothing, and any other 32 and its bytes beside its size
abbrev pub count_of : Bytes → ℕ
count_of pattern = cond (is_plain pattern) 0 (plus (plus (size_of pattern) 32) (length pattern))

-- what the patterns of an expression count, and those of a rule
abbrev pub count_in : Tree → ℕ
count_in e = sum_by count_of (patterns_in e)

abbrev pub count_of_rule : RuleTree → ℕ
count_of_rule r = count_in r.expr

-- so much was left, and is taken
abbrev pub TakesAllowance : ℕ → PatternAllowance → PatternAllowance → Type 0
TakesAllowance count old new = old.left ≡ count + new.left
