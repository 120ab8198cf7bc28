-- Files in memory as they lie in their list.
use Rattle.std.specs.Prelude.{◌≡◌, ◌≢◌, ℕ, ◌<◌, ◌≤◌, List, [], Option, Some, None, length, drop, slice_index_or}
use Rattle.lf_base.specs.declared.mem_files.Reading.{Reading}

-- a file's name and its bytes
abbrev pub File : Type 0
File = List ℕ × List ℕ

abbrev pub name_at : List File → ℕ → List ℕ
name_at files k = (slice_index_or files k ([], [])).0

abbrev pub bytes_at : List File → ℕ → List ℕ
bytes_at files k = (slice_index_or files k ([], [])).1

-- the first place at which a file of this name stands, if there is one
abbrev pub IsPlaceOf : List File → List ℕ → Option ℕ → Type 0
IsPlaceOf files name None = (j : ℕ) → j < length files → name_at files j ≢ name
IsPlaceOf files name (Some k) = (k < length files) × (name_at files k ≡ name) × ((j : ℕ) → j < k → name_at files j ≢ name)

-- the bytes left of the open file
abbrev pub left_of : List File → Option Reading → Option (List ℕ)
left_of files None = None
left_of files (Some reading) = Some (drop reading.next (bytes_at files reading.file))

-- the open file is one of the list, and the next byte one of its bytes or their end
abbrev pub IsWithin : List File → Option Reading → Type 0
IsWithin files None = Unit {0}
IsWithin files (Some reading) = (reading.file < length files) × (reading.next ≤ length (bytes_at files reading.file))
