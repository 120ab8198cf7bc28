-- Walks over expressions: which parts of an expression are gone into, and what is done there.
use Rattle.std.specs.Prelude.{◌≡◌, ◌<◌, ◌+◌, ◌^◌, ℕ, List, [], ◌∷◌, Option, Some, None, map, take, drop}
use Rattle.std.specs.Borrow.{Bor}
use Rattle.lf_ast.specs.Tree.{Tree, tree}
use Rattle.lf_ast.specs.declared.expr.Expr.{Expr}
use Rattle.lf_ast.specs.declared.walk.choosing.Parts.{Parts}
use Rattle.lf_ast.specs.declared.walk.choosing.Parts.TheVariants.{All, From, Only, Nothing}

-- those of some parts that are chosen, which are counted from 0
abbrev pub chosen : Parts → List Tree → List Tree
chosen All xs = xs
chosen (From place) xs = drop place xs
chosen (Only place) xs = take 1 (drop place xs)
chosen Nothing xs = []

-- the part at a place is found, or there is none
abbrev pub IsPartAt : List Tree → ℕ → Option (Bor Expr) → Type 0
IsPartAt xs place None = drop place xs ≡ []
IsPartAt xs place (Some part) = (drop place xs ≡ tree part.now ∷ drop (place + 1) xs) × (place + 1 < 2 ^ 64)

-- what is left by visits of parts, and by what is done between any two of them
module _ {S : Type 0} (visited between : S → Tree → S) (x : Tree) where
  -- of these parts, of which one was visited before
  abbrev pub further : List Tree → S → S
  further [] s = s
  further (p ∷ ps) s = further ps (visited (between s x) p)

  abbrev pub along : List Tree → S → S
  along [] s = s
  along (p ∷ ps) s = further ps (visited s p)

-- the trees of borrowed expressions
abbrev pub trees_at : List (Bor Expr) → List Tree
trees_at es = map (λ e. tree e.now) es
