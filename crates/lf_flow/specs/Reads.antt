-- Which rows of an environment the row of an expression depends on.
use Rattle.std.specs.Prelude.{◌≡◌, ◌⊎◌, ◌<◌, ℕ, List, [], map, length, Some, None, slice_index_or, slice_set}
use Rattle.std.specs.List.{Contains}
use Rattle.lf_ast.specs.Labels.{Bytes}
use Rattle.lf_ast.specs.Tree.{Tree}
use Rattle.lf_deps.specs.Reading.{selectors}
use Rattle.lf_semantics.specs.ClassRows.{Sets}
use Rattle.lf_semantics.specs.Listing.{place}
use Rattle.lf_semantics.specs.RowTable.{Environment}

-- The names of an environment are numbered from 0, in its order.

abbrev pub names_of : Environment → List Bytes
names_of env = map (λ entry. entry.0) env

abbrev pub rows_of : Environment → List Sets
rows_of env = map (λ entry. entry.1) env

abbrev pub name_at : Environment → ℕ → Bytes
name_at env k = slice_index_or (names_of env) k []

abbrev pub number_of : Environment → Bytes → ℕ
number_of env name = place (names_of env) name

-- a selector of the expression selects the name with the number, or one selects all. Nothing within a scalar is looked at
abbrev pub ReadsNumber : Environment → Tree → ℕ → Type 0
ReadsNumber env e k = (k < length env) × (((name : Bytes) × Contains (selectors e) (Some name) × (number_of env name ≡ k)) ⊎ Contains (selectors e) None)

-- environments of the same names, with the same rows of the names with these numbers
abbrev pub AreEqualAt : List ℕ → Environment → Environment → Type 0
AreEqualAt numbers env other = (names_of env ≡ names_of other) × ((k : ℕ) → Contains numbers k → slice_index_or (rows_of env) k [] ≡ slice_index_or (rows_of other) k [])

-- the name with the number has another row
abbrev pub with_row : ℕ → Sets → Environment → Environment
with_row k row env = slice_set env k (name_at env k, row)
