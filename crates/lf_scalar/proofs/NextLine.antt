-- A line break and the line behind it.
use Rattle.std.proofs.Common.{◌≡◌, ℕ, true, false, List, [], ◌∷◌, refl}
use Rattle.std.specs.List.{list_all}
use Rattle.lf_scalar.specs.Cells.{cells, byte_fault, Fails}
use Rattle.lf_base.specs.declared.kind.Kind.TheVariants.{LeftOut}
use Rattle.lf_scalar.specs.views.Built.{refused}
use Rattle.lf_scalar.specs.Lines.{start_of, is_blank}
use Rattle.lf_scalar.specs.Markers.{is_marker}
use Rattle.lf_scalar.specs.Quoted.{Quotes, Break}
use Rattle.lf_scalar.specs.reading.Quoted.{line_at, next_line}
use Rattle.lf_scalar.proofs.Tails.{true-false}

module _ (b : ℕ) (kind : Quotes) (at k : ℕ) (bytes : List ℕ) (break : Break) where
  pub marker-gives : is_marker (line_at at bytes b) ≡ true → list_all is_blank (cells at bytes) ≡ false → Fails (refused (byte_fault LeftOut at)) (next_line kind break k (line_at at bytes b))
  marker-gives marked full = rw (marked, begun bytes full) refl
    where
      begun : (bytes : List ℕ) → list_all is_blank (cells at bytes) ≡ false → start_of (line_at at bytes b) ≡ at
      begun [] e = true-false true refl e
      begun (x ∷ xs) e = refl
