-- How many selectors an expression has.
use Rattle.std.specs.Prelude.{ℕ, Bool, true, false}
use Rattle.std.specs.List.{count_by}
use Rattle.lf_ast.specs.Tree.{Tree, Selector, nodes}

abbrev pub is_selector : Tree → Bool
is_selector (Selector name matchers sight span) = true
is_selector _ = false

-- how many selectors stand in an expression, those within scalars too
abbrev pub selector_total : Tree → ℕ
selector_total e = count_by is_selector (nodes e)
