-- Reading what stands between quotes, piece by piece. A way of reading, which defines nothing: it is proved equal to what specs/Quoted defines.
use Rattle.std.specs.Prelude.{◌≡◌, ◌≢◌, ℕ, zero, suc, ◌+◌, ◌*◌, List, [], ◌∷◌, ◌++◌, length, take, Bool, true, false, Option, Some, None, Result, Ok, Err, ◌==◌, ◌&&◌, if◌then◌else◌}
use Rattle.std.specs.List.{flat_map}
use lib.Utf8.{scalar}
use Rattle.lf_base.specs.declared.kind.Kind.TheVariants.{BadEscape, OpenQuote, LeftOut, NotANode}
use Rattle.lf_scalar.specs.declared.escapes.PieceValue.{PieceValue}
use Rattle.lf_scalar.specs.declared.escapes.PieceValue.TheVariants as values
use Rattle.lf_base.specs.declared.refusal.Refusal.{Refusal}
use Rattle.lf_scalar.specs.declared.quoted.AtBreak.{AtBreak}
use Rattle.lf_scalar.specs.declared.quoted.AtBreak.TheVariants as at_break
use Rattle.lf_scalar.specs.declared.quotes.ByteEffect.{ByteEffect}
use Rattle.lf_scalar.specs.declared.quotes.ByteEffect.TheVariants as effect
use Rattle.lf_base.specs.declared.fault.Fault.{Fault}
use Rattle.lf_base.specs.Faults.{span}
use Rattle.lf_scalar.specs.Cells.{Cell, cell, cells, Value, made, byte_fault, character_fault, front, Fails, ◌>>=◌}
use Rattle.lf_scalar.specs.Lines.{Line, line, lines, start_of, first_text, begins_with, is_blank, is_blank_line}
use Rattle.lf_scalar.specs.Markers.{is_marker}
use Rattle.lf_scalar.specs.Splits.{Split, behind_cell}
use Rattle.lf_scalar.specs.Folding.{trimmed}
use Rattle.lf_scalar.specs.Quoted.{Quotes, Single, Double, QuotedPiece, Bare, Twice, Letter, Number, given, char_cells, letter_of, width_of, is_bare_blank, Break, Folds, Drops, filled, unindented}
use Rattle.lf_base.specs.Names.{hexadecimal_value}

-- the number that digits tell behind those that told a number before, where all are digits
abbrev pub told_on : ℕ → Option ℕ → (ℕ → Option ℕ) → Option ℕ
told_on before None later = None
told_on before (Some d) later = later (16 * before + d)

abbrev pub told : ℕ → List Cell → Option ℕ
told before [] = Some before
told before (c ∷ cs) = told_on before (hexadecimal_value c.byte) (λ n. told n cs)

-- a piece and how many cells behind its first it takes
abbrev pub number_if : Cell → Cell → List Cell → Option ℕ → Option (QuotedPiece × ℕ)
number_if c e digits None = None
number_if c e digits (Some n) = if scalar n then Some (Number c e digits n, suc (length digits)) else None

abbrev pub number_of : Cell → Cell → ℕ → List Cell → Option (QuotedPiece × ℕ)
number_of c e width src = if length (take width src) == width then number_if c e (take width src) (told 0 (take width src)) else None

abbrev pub letter_if : Cell → Cell → Option ℕ → Option (QuotedPiece × ℕ)
letter_if c e None = None
letter_if c e (Some n) = Some (Letter c e n, 1)

abbrev pub escape_if : Cell → Cell → List Cell → Option ℕ → Option (QuotedPiece × ℕ)
escape_if c e src None = letter_if c e (letter_of e.byte)
escape_if c e src (Some width) = number_of c e width src

abbrev pub escape_of : Cell → List Cell → Option (QuotedPiece × ℕ)
escape_of c [] = None
escape_of c (e ∷ src) = escape_if c e src (width_of e.byte)

abbrev pub twice_of : Cell → List Cell → Option (QuotedPiece × ℕ)
twice_of c [] = None
twice_of c (d ∷ src) = if d.byte == 39 then Some (Twice c d, 1) else None

unfoldable pub piece_of : Quotes → Cell → List Cell → Option (QuotedPiece × ℕ)
piece_of Single c src = if c.byte == 39 then twice_of c src else Some (Bare c, 0)
piece_of Double c src = if c.byte == 92 then escape_of c src else if c.byte == 34 then None else Some (Bare c, 0)

-- what a piece gives, whether it is a blank that stands for itself, and how many cells behind its first it takes
abbrev pub as_piece : QuotedPiece × ℕ → List Cell × (Bool × ℕ)
as_piece x = (given x.0, (is_bare_blank x.0, x.1))

-- the same of a character that an escape gives
abbrev pub as_character : Cell → ℕ → ℕ → List Cell × (Bool × ℕ)
as_character backslash count n = (char_cells backslash.at n, (false, count))

-- the same of an escape that a backslash begins: a character, and how many cells behind the backslash
abbrev pub as_escape : Cell → ℕ × ℕ → List Cell × (Bool × ℕ)
as_escape backslash x = (char_cells backslash.at x.0, (false, x.1))

-- the same of what the code tells of a piece at an offset
abbrev pub as_value : ℕ → PieceValue × ℕ → List Cell × (Bool × ℕ)
as_value at (values.Byte byte, k) = (cell byte at ∷ [], (is_blank (cell byte at), k))
as_value at (values.Char n, k) = (char_cells at n, (false, k))

-- the piece at the front of some bytes
abbrev pub piece_at : Quotes → ℕ → List ℕ → Option (QuotedPiece × ℕ)
piece_at kind at [] = None
piece_at kind at (b ∷ bytes) = piece_of kind (cell b at) (cells (suc at) bytes)

-- pieces, as many as stand there, and what is left; the first cells, as many as the number says, are skipped
abbrev pub scanned : Cell → List Cell → Option (QuotedPiece × ℕ) → (ℕ → List QuotedPiece × List Cell) → List QuotedPiece × List Cell
scanned c src None later = ([], c ∷ src)
scanned c src (Some x) later = (x.0 ∷ (later x.1).0, (later x.1).1)

unfoldable pub scan : Quotes → ℕ → List Cell → List QuotedPiece × List Cell
scan kind k [] = ([], [])
scan kind (suc k) (c ∷ src) = scan kind k src
scan kind zero (c ∷ src) = scanned c src (piece_of kind c src) (λ k. scan kind k src)

-- a byte for itself that is a blank
abbrev pub is_blank_value : PieceValue → Bool
is_blank_value (values.Byte byte) = is_blank (cell byte 0)
is_blank_value (values.Char n) = false

-- a text grew by what the pieces of some cells give, these cells are left, and so much of it is kept without the bare blanks at its end
pub record Reaches (kind : Quotes) (cs old now : List Cell) (kept : ℕ) (left : List Cell) : Type 0 where
  pub text : now ≡ old ++ flat_map given (scan kind 0 cs).0
  pub left_is : left ≡ (scan kind 0 cs).1
  pub kept_is : kept ≡ length old + length (flat_map given (trimmed is_bare_blank (scan kind 0 cs).0))

-- ---- what closes

abbrev pub closing_step : Quotes → Cell → List Cell → (ℕ → Option Split) → Option Split
closing_step Single c src later = if c.byte == 39 then (if begins_with 39 src then behind_cell c (later 1) else Some ([], (c, src))) else behind_cell c (later 0)
closing_step Double c src later = if c.byte == 34 then Some ([], (c, src)) else behind_cell c (later (if c.byte == 92 then 1 else 0))

-- the split at the quote that closes, where the first cells, as many as the number says, are skipped
unfoldable pub closing_of : Quotes → ℕ → List Cell → Option Split
closing_of kind k [] = None
closing_of kind (suc k) (c ∷ src) = behind_cell c (closing_of kind k src)
closing_of kind zero (c ∷ src) = closing_step kind c src (λ k. closing_of kind k src)

-- what a byte between quotes does, by the byte behind it
abbrev pub IsEffect : Quotes → ℕ → ℕ → ByteEffect → Type 0
IsEffect Single byte next effect.Closes = (byte ≡ 39) × (next ≢ 39)
IsEffect Single byte next effect.TakesNext = (byte ≡ 39) × (next ≡ 39)
IsEffect Single byte next effect.Passes = byte ≢ 39
IsEffect Double byte next effect.Closes = byte ≡ 34
IsEffect Double byte next effect.TakesNext = byte ≡ 92
IsEffect Double byte next effect.Passes = (byte ≢ 34) × (byte ≢ 92)

-- ---- the lines

-- what the pieces of a line and the cells left of it make: its text and its line break
abbrev pub stopped : ℕ → List QuotedPiece → Cell → List Cell → Result (List Cell × Break) Fault
stopped break pieces c [] = Ok (flat_map given pieces, Drops break)
stopped break pieces c (d ∷ more) = Err (byte_fault BadEscape c.at)

abbrev pub ended : ℕ → List QuotedPiece × List Cell → Result (List Cell × Break) Fault
ended break (pieces, []) = Ok (flat_map given (trimmed is_bare_blank pieces), Folds break)
ended break (pieces, c ∷ more) = if c.byte == 92 then stopped break pieces c more else Ok (flat_map given pieces, Folds break)

abbrev pub line_of : Quotes → Line → Result (List Cell × Break) Fault
line_of kind l = ended l.break (scan kind 0 l.text)

-- the line of some bytes
abbrev pub line_at : ℕ → List ℕ → ℕ → Line
line_at at bytes break = line (cells at bytes) break

-- a line break at an offset, as the code tells it
abbrev pub broken : AtBreak → ℕ → Break
broken at_break.Fold at = Folds at
broken at_break.Drop at = Drops at

-- what a function that reads a line returned, and what it did to the text, is what the line gives, unless memory ran out
abbrev pub LineAnswers : Result AtBreak Refusal → List Cell → List Cell → ℕ → Result (List Cell × Break) Fault → Type 0
LineAnswers (Ok b) old now break read = (part : List Cell) × (read ≡ Ok (part, broken b break)) × (now ≡ old ++ part)
LineAnswers (Err e) old now break read = Fails e read

-- cells before those of a line
abbrev pub prefixed : List Cell → Result (List Cell × Break) Fault → Result (List Cell × Break) Fault
prefixed cs read = read >>= λ x. Ok (cs ++ x.0, x.1)

-- what a line break with so many blank lines behind it and the next line give
abbrev pub next_line : Quotes → Break → ℕ → Line → Result (List Cell × Break) Fault
next_line kind break k l = if is_marker l then Err (byte_fault LeftOut (start_of l)) else prefixed (filled break k) (line_of kind (unindented l))

-- what follows a line break with so many blank lines so far
unfoldable pub lines_behind : Quotes → Break → ℕ → List Line → Result (List Cell) Fault
lines_behind kind break k [] = Ok []
lines_behind kind break k (l ∷ ls) =
    if is_blank_line l then lines_behind kind break (suc k) ls
    else if is_marker l then Err (byte_fault LeftOut (start_of l))
    else front (filled break k) (line_of kind (unindented l) >>= λ x. front x.0 (lines_behind kind x.1 0 ls))

abbrev pub lines_from : Quotes → Line → List Line → Result (List Cell) Fault
lines_from kind l ls = line_of kind l >>= λ x. front x.0 (lines_behind kind x.1 0 ls)

-- ---- the scalar

abbrev pub lines_of : Quotes → List Line → Result (List Cell) Fault
lines_of kind [] = Ok []
lines_of kind (l ∷ ls) = lines_from kind l ls

-- the first cell that can't stand behind a scalar on its line
abbrev pub wrong_behind : Bool → List Cell → Option Cell
wrong_behind blank [] = None
wrong_behind blank (c ∷ cs) = if is_blank c then wrong_behind true cs else if blank && (c.byte == 35) then None else Some c

abbrev pub alone : Value → Option Cell → Result Value Fault
alone v None = Ok v
alone v (Some c) = Err (character_fault NotANode c)

abbrev pub closed : Quotes → ℕ → Cell → Option Split → Result Value Fault
closed kind end opening None = Err (byte_fault OpenQuote opening.at)
closed kind end opening (Some x) =
    lines_of kind (lines (x.1.0.at + 1) (x.0 ++ x.1.0 ∷ [])) >>= λ text. alone (made text x.1.0.at (span opening.at (x.1.0.at + 1))) (wrong_behind false (first_text (lines end x.1.1)))

unfoldable pub quoted_of : Quotes → ℕ → Cell → List Cell → Result Value Fault
quoted_of kind end opening src = closed kind end opening (closing_of kind 0 src)
