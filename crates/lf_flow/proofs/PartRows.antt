-- The rows of the parts of an expression.
use Rattle.std.proofs.Common.{◌≡◌, List, [], ◌∷◌, ◌++◌, map, reverse, refl, sym, ◌∙◌, ap}
use Rattle.std.proofs.lemmas.List.{append_assoc, map_push, reverse-append}
use Rattle.lf_ast.specs.Tree.{Tree}
use Rattle.lf_semantics.specs.ClassRows.{Sets}
use Rattle.lf_semantics.specs.Listing.{Listing}
use Rattle.lf_semantics.specs.RowTable.{Environment, row_of}
use Rattle.lf_flow.specs.declared.typed_row.TypedRow.{TypedRow}
use Rattle.lf_flow.specs.views.Kept.{made_row, typed_row_of}
use Rattle.lf_flow.proofs.KeptRows.{made_is}

-- what is taken off the end of one list is made to stand first in the other
pub one_back : {X Y : Type 0} (f : X → Y) (old front : List X) (x : X) (rows more : List Y) (y : Y) → old ≡ front ++ x ∷ [] → y ≡ f x → more ≡ rows ++ y ∷ [] → map f old ++ reverse rows ≡ map f front ++ reverse more
one_back {Y = Y} f old front x rows more y taken is pushed =
    ap (λ xs. map f xs ++ reverse rows) taken
    ∙ ap (λ (ys : List Y). ys ++ reverse rows) (map_push f front x)
    ∙ append_assoc (map f front) (f x ∷ []) (reverse rows)
    ∙ ap (λ (z : Y). map f front ++ z ∷ reverse rows) (sym is)
    ∙ ap (λ (ys : List Y). map f front ++ ys) (sym (reverse-append rows (y ∷ [])))
    ∙ ap (λ (ys : List Y). map f front ++ reverse ys) (sym pushed)

module _ (u : Listing) (env : Environment) where
  pub rows_are : (es : List Tree) → map (λ (typed : TypedRow). made_row u typed.row) (map (typed_row_of u env) es) ≡ map (row_of u env) es
  rows_are [] = refl
  rows_are (e ∷ es) = ap (λ (row : Sets). row ∷ map (λ (typed : TypedRow). made_row u typed.row) (map (typed_row_of u env) es)) (made_is u env e) ∙ ap (λ (rows : List Sets). row_of u env e ∷ rows) (rows_are es)
