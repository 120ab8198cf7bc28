-- The lines of a source, and what a line can be.
use Rattle.std.specs.Prelude.{◌≡◌, ◌≢◌, ℕ, suc, ◌+◌, ◌<◌, ◌-◌, ◌⊎◌, List, [], ◌∷◌, Bool, true, false, not, length, get_or, ◌==◌, ◌&&◌, ◌||◌, if◌then◌else◌}
use Rattle.std.specs.List.{list_all, AllByRecursion}
use Rattle.lf_scalar.specs.Cells.{Cell, cells}

-- The cells of a line without its end, and its line break: the offset of the line feed that ends it. Where the last line has none, that is the end of the source.
pub record Line : Type 0 where
  pub text : List Cell
  pub break : ℕ

abbrev pub line : List Cell → ℕ → Line
line text break = record { text = text; break = break }

-- the offset of a line's first byte
abbrev pub start_of : Line → ℕ
start_of l = by l.text
  where
    by : List Cell → ℕ
    by [] = l.break
    by (c ∷ cs) = c.at

-- the first of some cells is this byte
abbrev pub begins_with : ℕ → List Cell → Bool
begins_with byte [] = false
begins_with byte (c ∷ cs) = c.byte == byte

abbrev pub is_empty_text : List Cell → Bool
is_empty_text [] = true
is_empty_text (c ∷ cs) = false

-- a cell more at the front of the first line
abbrev pub lengthen : ℕ → Cell → List Line → List Line
lengthen end c [] = line (c ∷ []) end ∷ []
lengthen end c (l ∷ ls) = line (c ∷ l.text) l.break ∷ ls

-- The lines of a source that ends at an offset: a line feed ends a line, and so does a carriage return before one.
unfoldable pub lines : ℕ → List Cell → List Line
lines end [] = []
lines end (c ∷ src) =
    if c.byte == 10 then line [] c.at ∷ lines end src
    else if c.byte == 13 && begins_with 10 src then lines end src
    else lengthen end c (lines end src)

-- the lines of the bytes from an offset on
abbrev pub lines_at : ℕ → List ℕ → List Line
lines_at at bytes = lines (at + length bytes) (cells at bytes)

-- so many bytes stand before the line feed at a place, but for a carriage return at their end
abbrev pub IsTextBefore : List ℕ → ℕ → ℕ → Type 0
IsTextBefore bytes feed n = ((n ≡ feed) × (0 < feed → get_or bytes (feed - 1) 0 ≢ 13)) ⊎ ((suc n ≡ feed) × (get_or bytes n 0 ≡ 13))

-- the rest of the line that a source begins with
abbrev pub first_text : List Line → List Cell
first_text [] = []
first_text (l ∷ ls) = l.text

-- a blank is a space or a tab
abbrev pub is_blank : Cell → Bool
is_blank c = (c.byte == 32) || (c.byte == 9)

-- without the blanks at the front
abbrev pub after_blanks : List Cell → List Cell
after_blanks [] = []
after_blanks (c ∷ cs) = if is_blank c then after_blanks cs else c ∷ cs

-- without the spaces at the front
abbrev pub after_spaces : List Cell → List Cell
after_spaces [] = []
after_spaces (c ∷ cs) = if c.byte == 32 then after_spaces cs else c ∷ cs

-- how many spaces a line begins with
abbrev pub indent_of : List Cell → ℕ
indent_of [] = 0
indent_of (c ∷ cs) = if c.byte == 32 then suc (indent_of cs) else 0

-- a line of blanks alone
abbrev pub is_blank_line : Line → Bool
is_blank_line l = list_all is_blank l.text

abbrev pub AreBlank : List Line → Type 0
AreBlank ls = AllByRecursion (λ l. is_blank_line l ≡ true) ls

-- a line of spaces alone
abbrev pub is_spaces : Line → Bool
is_spaces l = list_all (λ c. c.byte == 32) l.text

-- A content line has a character that isn't a blank, and the first of these isn't `#`.
abbrev pub is_content : Line → Bool
is_content l = not (is_blank_line l) && not (begins_with 35 (after_blanks l.text))

-- What may stand behind a scalar on its line: blanks, or blanks and a comment, whose `#` stands behind a blank. The flag says that a blank stands right before these cells.
abbrev pub is_tail : Bool → List Cell → Bool
is_tail behind [] = true
is_tail behind (c ∷ cs) = if is_blank c then is_tail true cs else behind && (c.byte == 35)
