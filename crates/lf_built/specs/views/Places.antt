-- Where the parts of an expression stand among all parts in it, each before its own: how contracts see the code. It defines nothing.
use Rattle.std.specs.Prelude.{◌≡◌, ℕ, List, ◌++◌, length}
use Rattle.std.proofs.Common.{drop}
use Rattle.lf_ast.specs.Tree.{Tree, nodes}

-- the expression and all parts in it stand in a list from a place on
abbrev pub StandsFrom : List Tree → ℕ → Tree → Type 0
StandsFrom all place e = (behind : List Tree) × (drop place all ≡ nodes e ++ behind)

-- how many parts there are in an expression, with itself
abbrev pub size : Tree → ℕ
size e = length (nodes e)
