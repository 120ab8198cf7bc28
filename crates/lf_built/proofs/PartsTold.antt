-- What is told of the parts of an expression, put together.
use Rattle.std.proofs.Common.{◌≡◌, ℕ, Bool, List, [], ◌∷◌, map, refl, ap, ◌∙◌}
use Rattle.lf_ast.specs.Tree.{Tree}
use Rattle.lf_forks.specs.declared.holding.Held.{Held}
use Rattle.lf_forks.specs.views.Holding.{Forks, holds, test_of}
use Rattle.lf_forks.proofs.HeldParts.{found_in_each, scalar_in_each}
use Rattle.lf_semantics.specs.Listing.{Listing}
use Rattle.lf_semantics.specs.Parts.{is_scalar_part}
use Rattle.lf_semantics.specs.RowTable.{Environment, row_of}
use Rattle.lf_trials.specs.Forks.{has_passing}
use Rattle.lf_candidates.specs.views.Packed.{PackedRow, packed}
use Rattle.lf_built.specs.views.PartRows.{PartRows, packed_row, part_rows}
use Rattle.lf_built.specs.views.Places.{size}

abbrev told_by : List PackedRow → List ℕ → List Bool → List Bool → PartRows
told_by rows sizes scalars forks = record { rows = rows; sizes = sizes; scalars = scalars; forks = forks }

pub parts_told : (u : Listing) (env : Environment) (forks : Forks) (all : List Tree) (rows : List PackedRow) (sizes : List ℕ) (held : List Held)
    → rows ≡ map (packed_row u env) all → sizes ≡ map size all → held ≡ map (holds forks.marks) all
    → told_by rows sizes (map (λ (h : Held). h.scalar) held) (map (λ (h : Held). h.found) held) ≡ part_rows u env (has_passing (test_of forks)) all
parts_told u env forks all rows sizes held r s h =
    ap (λ (l : List PackedRow). told_by l sizes (map (λ (x : Held). x.scalar) held) (map (λ (x : Held). x.found) held)) r
    ∙ ap (λ (l : List ℕ). told_by (map (packed_row u env) all) l (map (λ (x : Held). x.scalar) held) (map (λ (x : Held). x.found) held)) s
    ∙ ap (λ (l : List Bool). told_by (map (packed_row u env) all) (map size all) l (map (λ (x : Held). x.found) held)) (ap (map (λ (x : Held). x.scalar)) h ∙ scalar_in_each forks.marks all)
    ∙ ap (λ (l : List Bool). told_by (map (packed_row u env) all) (map size all) (map is_scalar_part all) l) (ap (map (λ (x : Held). x.found)) h ∙ found_in_each forks.marks all)

pub each_packed : (u : Listing) (env : Environment) (all : List Tree) → map (packed u) (map (row_of u env) all) ≡ map (packed_row u env) all
each_packed u env [] = refl
each_packed u env (e ∷ all) = ap (λ (rows : List PackedRow). packed_row u env e ∷ rows) (each_packed u env all)
