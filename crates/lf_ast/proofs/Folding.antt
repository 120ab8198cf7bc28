-- What a fold over an expression keeps.
use Rattle.std.proofs.Common.{◌≡◌, ◌≤◌, ℕ, List, [], ◌∷◌, ◌++◌, length, map, take, drop}
use Rattle.lf_ast.specs.Tree.{Tree, parts_of, tree}
use Rattle.lf_ast.specs.declared.walk.choosing.Frame.{Frame}
use Rattle.lf_ast.specs.declared.walk.choosing.Parts.{Parts}
use Rattle.lf_ast.specs.views.Walks.{chosen}
use Rattle.lf_ast.proofs.Walks.{left_of}

module _ {V N : Type 0} (value : Tree → V) (needed : Tree → Parts) (notes : Tree → N → Type 0) where
  -- the values that an expression's is made of
  abbrev pub part_values : Tree → List V
  part_values x = map value (chosen (needed x) (parts_of x))

  -- what is left to do, the last frame first, makes of these values that of the whole
  abbrev pub Makes : Tree → List (Frame ℕ N) → List V → Type 0
  Makes whole [] values = values ≡ value whole ∷ []
  Makes whole (f ∷ fs) values =
      notes (tree f.expr.now) f.note × (f.mark ≤ length values) × (drop f.mark values ++ map value (left_of f) ≡ part_values (tree f.expr.now))
      × Makes whole fs (take f.mark values ++ value (tree f.expr.now) ∷ [])
