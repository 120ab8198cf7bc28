-- The content lines of a file, what is left of one behind a sign, and what is told of one that can't stand where it does.
use Rattle.std.specs.Prelude.{ℕ, ◌-◌, List, [], ◌∷◌, ◌++◌, Bool, false, Option, Some, None, nat_lt, ◌==◌, ◌&&◌, ◌||◌, codes, if◌then◌else◌}
use Rattle.std.specs.List.{list_any}
use Rattle.lf_base.specs.declared.kind.Kind.TheVariants.{BadIndent, LeftOut, NotANode}
use Rattle.lf_base.specs.declared.fault.Fault.{Fault}
use Rattle.lf_scalar.specs.Cells.{Cell, byte_fault, character_fault}
use Rattle.lf_scalar.specs.Lines.{Line, start_of, is_blank, after_spaces, begins_with, is_tail}
use Rattle.lf_scalar.specs.Markers.{is_thrice}
use Rattle.lf_scalar.specs.Plain.{before_blank}
use Rattle.lf_yaml.specs.Keys.{has_key_left_out}

-- A content line, from its first character that isn't a space, or what is left of one behind a sign, from its first character that isn't a blank: the offset of the
-- line's first byte, that character's first cell, and the cells behind it on the line.
pub record ContentRow : Type 0 where
  pub begin : ℕ
  pub first : Cell
  pub rest : List Cell

abbrev pub row : ℕ → Cell → List Cell → ContentRow
row begin first rest = record { begin = begin; first = first; rest = rest }

abbrev pub text_of : ContentRow → List Cell
text_of r = r.first ∷ r.rest

-- the column of the first character: a line's indent
abbrev pub indent : ContentRow → ℕ
indent r = r.first.at - r.begin

-- ---- the rows of a file

-- some cells of a line, from a character that isn't a space on
abbrev pub headed : ℕ → List Cell → List ContentRow
headed begin [] = []
headed begin (c ∷ cs) = row begin c cs ∷ []

-- Each line with a character other than a space is a row, unless the first such is `#`. So a line is one too whose first is a tab, whatever follows: it can't stand anywhere.
abbrev pub content_row : Line → List ContentRow
content_row l = if begins_with 35 (after_spaces l.text) then [] else headed (start_of l) (after_spaces l.text)

-- the rows of some lines: lines of spaces and comment lines are left out
unfoldable pub rows_of : List Line → List ContentRow
rows_of [] = []
rows_of (l ∷ ls) = content_row l ++ rows_of ls

-- the rows that begin at an offset or behind it
abbrev pub rows_from : ℕ → List ContentRow → List ContentRow
rows_from at [] = []
rows_from at (r ∷ rs) = if nat_lt r.begin at then rows_from at rs else r ∷ rs

-- what is left of a line behind a sign: nothing but blanks and a comment, or a row
abbrev pub left_of : ℕ → List Cell → Option ContentRow
left_of begin [] = None
left_of begin (c ∷ cs) = if is_blank c then left_of begin cs else if c.byte == 35 then None else Some (row begin c cs)

-- a tab that stands among the blanks at the front of some cells: only spaces may stand behind an item's sign
abbrev pub tab_in : List Cell → Option Cell
tab_in [] = None
tab_in (c ∷ cs) = if c.byte == 32 then tab_in cs else if c.byte == 9 then Some c else None

-- ---- forms that the profile leaves out

abbrev pub is_one_of : List ℕ → Cell → Bool
is_one_of signs c = list_any (λ sign. c.byte == sign) signs

-- a line at indent 0 that begins with `---` or `...` and a blank or the line's end, or with `%`
abbrev pub is_mark : ContentRow → Bool
is_mark r = (indent r == 0) && (is_thrice 45 (text_of r) || (is_thrice 46 (text_of r) || (r.first.byte == 37)))

-- an anchor, an alias, a tag, or a `?` before a blank or the line's end
abbrev pub is_property : Cell → List Cell → Bool
is_property c cs = is_one_of (codes "&*!") c || ((c.byte == 63) && before_blank cs)

-- one of these forms, or a key that is left out
abbrev pub is_left_out : ContentRow → Bool
is_left_out r = is_property r.first r.rest || (is_mark r || has_key_left_out (text_of r))

-- ---- what is told of a row

-- its indent fits no open collection; a tab behind the spaces is told at the line's first byte
abbrev pub indent_fault : ContentRow → Fault
indent_fault r = if r.first.byte == 9 then byte_fault BadIndent r.begin else character_fault BadIndent r.first

-- it begins nothing that may stand there
abbrev pub row_fault : ContentRow → Fault
row_fault r =
    if r.first.byte == 9 then byte_fault BadIndent r.begin
    else if is_left_out r then character_fault LeftOut r.first
    else character_fault NotANode r.first

-- ---- the edges of a document

-- `---` with nothing but blanks and a comment behind it
abbrev pub is_opening_text : List Cell → Bool
is_opening_text (c ∷ d ∷ e ∷ cs) = (c.byte == 45) && ((d.byte == 45) && ((e.byte == 45) && is_tail false cs))
is_opening_text cs = false

abbrev pub is_opening : ContentRow → Bool
is_opening r = (indent r == 0) && is_opening_text (text_of r)

-- the rows without a first one that only opens the document
abbrev pub without_opening : List ContentRow → List ContentRow
without_opening [] = []
without_opening (r ∷ rs) = if is_opening r then rs else r ∷ rs
