-- Lines and columns of a text.
use Rattle.std.specs.Prelude.{ℕ, ◌+◌, ◌==◌, Bool, List, length, take, count_by}
use Rattle.std.specs.List.{after_last}

-- the byte that ends a line
abbrev pub is_line_feed : ℕ → Bool
is_line_feed byte = byte == 10

-- the line of an offset, counted from 1: one more than the line feeds before it
abbrev pub line_at : List ℕ → ℕ → ℕ
line_at bytes offset = 1 + count_by is_line_feed (take offset bytes)

-- the column of an offset, counted from 1 in bytes: one more than the bytes between the last line feed before it and the offset
abbrev pub column_at : List ℕ → ℕ → ℕ
column_at bytes offset = 1 + length (after_last is_line_feed (take offset bytes))
