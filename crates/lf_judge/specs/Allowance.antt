-- How much the patterns of all files of a run may count together.
use Rattle.std.specs.Prelude.{◌≤◌, ℕ, List, sum}
use Rattle.std.specs.List.{AllZip}
use Rattle.lf_accept.specs.Taken.{FileTakes}
use Rattle.lf_checks.specs.Files.{File}

-- what the patterns of all files may count
abbrev pub most_in_all : ℕ
most_in_all = 4250000

-- so much is taken of each file for its patterns, which goes by the texts of the files alone
abbrev pub AreTaken : List File → List ℕ → Type 0
AreTaken files counts = AllZip (λ file n. FileTakes file.bytes n) files counts

-- it is no more in all than may be
abbrev pub AreAllowed : List File → Type 0
AreAllowed files = (counts : List ℕ) × AreTaken files counts × (sum counts ≤ most_in_all)
