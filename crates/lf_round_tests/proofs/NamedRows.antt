-- The row of a name has the shape of the universe.
use Rattle.std.proofs.Common.{◌≡◌, Bool, true, false, cond, [], ◌∷◌, Some, subst}
use Rattle.std.specs.List.{AllByRecursion}
use Rattle.std.specs.Str.{bytes_eq}
use Rattle.std.proofs.lemmas.Option.{none-some, same_Some}
use Rattle.lf_ast.specs.Labels.{Bytes}
use Rattle.lf_semantics.specs.ClassRows.{HasShape, Sets}
use Rattle.lf_semantics.specs.Environments.{IsRow}
use Rattle.lf_semantics.specs.Listing.{Listing}
use Rattle.lf_semantics.specs.RowTable.{Environment, row_named}

pub named_shape : (u : Listing) (env : Environment) (n : Bytes) (row : Sets) → AllByRecursion (λ entry. IsRow u entry.1) env → row_named env n ≡ Some row → HasShape u row
named_shape u [] n row rows e = absurd (none-some row e)
named_shape u (entry ∷ later) n row rows e = by (bytes_eq entry.0 n) e (λ same. named_shape u later n row rows.1 same)
  where
    by : (b : Bool) → cond b (Some entry.1) (row_named later n) ≡ Some row → (row_named later n ≡ Some row → HasShape u row) → HasShape u row
    by true same rest = let P : Sets → Type 0 = λ x. HasShape u x in subst P (same_Some entry.1 row same) rows.0.0
    by false same rest = rest same
