-- Rows as they are kept where there are many. It defines nothing.
use Rattle.std.specs.Prelude.{◌≡◌, ℕ, Bool, false, List, [], map, replicate}
use Rattle.std.specs.List.{flat_map, position_or_len}
use Rattle.lf_classes.specs.RowWords.{words_of_row}
use Rattle.lf_semantics.specs.ClassRows.{HasShape, Sets, is_live}
use Rattle.lf_semantics.specs.Listing.{Listing}
use Rattle.lf_candidates.specs.declared.packed_row.WordRun.{WordRun}

-- the words, the first class of each label, and whether the row isn't empty
pub record PackedRow : Type 0 where
  pub words : List ℕ
  pub firsts : List ℕ
  pub live : Bool

-- the words of runs
abbrev pub unpacked : List WordRun → List ℕ
unpacked = flat_map (λ (run : WordRun). replicate run.count run.word)

-- the first class that a row has of each label, or how many places it has for classes of the label, where it has none of them
abbrev pub first_classes : Sets → List ℕ
first_classes row = map (position_or_len (λ (on : Bool). on)) row

-- a row, packed
abbrev pub packed : Listing → Sets → PackedRow
packed u row = record { words = words_of_row u row; firsts = first_classes row; live = is_live row }

-- it is a row of the universe, packed
abbrev pub IsPacked : Listing → Sets → PackedRow → Type 0
IsPacked u row kept = HasShape u row × (kept ≡ packed u row)

-- where there is no row
abbrev pub no_row : PackedRow
no_row = record { words = []; firsts = []; live = false }
