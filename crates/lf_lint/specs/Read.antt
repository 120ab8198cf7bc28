-- The reading of files, and the limits on it.
use Rattle.std.specs.Prelude.{◌≡◌, ◌⊎◌, ℕ, ◌+◌, ◌-◌, ◌<◌, ◌≤◌, List, length, take, drop, min, Option, Some, None, slice_get}
use Rattle.std.specs.List.{AllByRecursion, AllZip, sum_by}
use Rattle.lf_ast.specs.Labels.{Bytes}
use Rattle.lf_checks.specs.Files.{File}

-- the most files that may be named
abbrev pub most_files : ℕ
most_files = 1000

-- the most bytes that a file may have: 4 MiB
abbrev pub most_bytes : ℕ
most_bytes = 4194304

-- the most bytes that all files together may have: 16 MiB
abbrev pub most_bytes_in_all : ℕ
most_bytes_in_all = 16777216

-- the bytes are as the object tells them, where it does
abbrev pub AreAsTold : Option Bytes → Bytes → Type 0
AreAsTold None bytes = Unit {0}
AreAsTold (Some told) bytes = bytes ≡ told

-- the file of this name, with its bytes as the object tells them
abbrev pub IsReadFile : (Bytes → Option Bytes) → Bytes → File → Type 0
IsReadFile held name file = (file.name ≡ name) × AreAsTold (held name) file.bytes

-- the bytes of all files
abbrev pub byte_count : List File → ℕ
byte_count files = sum_by (λ file. length file.bytes) files

-- no file has more bytes than one may have, and together they have no more than all may have
pub record AreShort (files : List File) : Type 0 where
  pub each : AllByRecursion (λ file. length file.bytes ≤ most_bytes) files
  pub together : byte_count files ≤ most_bytes_in_all

-- the most bytes that the next file may have, behind files of so many
abbrev pub room_behind : ℕ → ℕ
room_behind before = min most_bytes (most_bytes_in_all - before)

-- Which limit is passed by the next byte behind that room: 2 is the bytes of a file, and 3 those of all files. Where both are passed by the same byte, it is 2. The count told
-- is one more than the limit
abbrev pub IsPassedBehind : ℕ → ℕ → ℕ → Type 0
IsPassedBehind before quantity count =
    ((before + most_bytes ≤ most_bytes_in_all) × (quantity ≡ 2) × (count ≡ 4194305))
    ⊎ ((most_bytes_in_all < before + most_bytes) × (quantity ≡ 3) × (count ≡ 16777217))

-- of the files of these names, those before the one with this number are as the object tells them, and pass no limit
pub record AreReadBefore (held : Bytes → Option Bytes) (names : List Bytes) (k : ℕ) : Type 0 where
  pub name : Bytes
  pub is_named : slice_get names k ≡ Some name
  pub before : List File
  pub are_read : AllZip (IsReadFile held) (take k names) before
  pub are_short : AreShort before

-- the file with this number has more bytes than there is room for; reading stopped right behind the first of them, where the object tells what is left
pub record IsTooLong (held : Bytes → Option Bytes) (left : Option Bytes) (names : List Bytes) (k quantity count : ℕ) : Type 0 where
  pub reached : AreReadBefore held names k
  pub bytes : Bytes
  pub told : AreAsTold (held reached.name) bytes
  pub longer : room_behind (byte_count reached.before) < length bytes
  pub passed : IsPassedBehind (byte_count reached.before) quantity count
  pub stopped : AreAsTold left (drop (room_behind (byte_count reached.before) + 1) bytes)
